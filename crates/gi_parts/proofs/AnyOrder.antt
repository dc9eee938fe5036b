-- Parts of the same tables, taken one after the other in any order.
use Rattle.std.proofs.Common.{arith, ◌≡◌, ◌≢◌, ◌+◌, ◌∙◌, ℕ, List, [], ◌∷◌, ◌++◌, length, map, All, Bool, true, false, cond, ◌||◌, nat_eq, nat_lt, refl, sym, ap, subst}
use Rattle.std.specs.Prelude.{Contains}
use Rattle.std.specs.Int.{IsInRange}
use Rattle.std.proofs.lemmas.Bool.{eq-eqb, eqb-true, lt-ltb, le-ltb, ne_eqb, or_from, or_left, or_right}
use Rattle.std.proofs.lemmas.List.{length-append, length-map, map-append}
use Rattle.std.proofs.lemmas.List.Elements.{All-cons, All-head, All-map, All-nil, All-push, All-tail, All-weaker, recursion_from_All}
use Rattle.std.proofs.lemmas.List.Folds.{list_any-append, list_any_at}
use Rattle.std.proofs.lemmas.Cmp.{nat_eq_equiv}
use Rattle.std.proofs.lemmas.Map.Keys.{IsDistinct-cons, IsDistinct-push}
use Rattle.gi_pairs.specs.declared.cycle_id.CycleId.{CycleId}
use Rattle.gi_parts.specs.Gathering.{gathered}
use Rattle.gi_parts.specs.Laws.{AreAllNumbers, GathersInAnyOrder, GathersWhatWasSplit, come_to, kept_after}
use Rattle.gi_parts.specs.Parts.{AreKept, AreSome, count_of, is_there, parts_of, with_kept}
use Rattle.gi_parts.specs.Splitting.{IsPartOf, IsSendable, part_of_whole, parts_of_whole}
use Rattle.gi_parts.specs.declared.gathered.Gathered.{Gathered}
use Rattle.gi_parts.specs.declared.gathered.Gathered.TheVariants.{Complete, Keep}
use Rattle.gi_parts.specs.declared.kept_parts.KeptPart.{KeptPart}
use Rattle.gi_parts.specs.declared.part.Part.{Part}
use Rattle.gi_parts.specs.declared.part.Whole.{Whole}
use Rattle.gi_parts.proofs.Keeping.{kept-with, numbers, parts_of-with, there-is}
use Rattle.gi_parts.proofs.Numbers.{IsWithin, few_numbers, is_in, many_numbers}
use Rattle.gi_parts.proofs.Wholes.{gathers-split, sends-readable, within_range}

pub gathers-what_was_split : GathersWhatWasSplit
gathers-what_was_split whole id kept part sendable are all here = gathers-split whole part (parts_of id kept) sendable (are id) all here

-- ---- membership

in_from : (n : ℕ) (ns : List ℕ) → Contains ns n → is_in n ns ≡ true
in_from n ns contains = list_any_at (nat_eq n) ns contains.0 n contains.1 (eq-eqb n _ (sym contains.2))

not_in : (n : ℕ) (ns : List ℕ) → All (λ m. m ≢ n) ns → is_in n ns ≡ false
not_in n [] apart = refl
not_in n (m ∷ ns) apart =
    or_from (nat_eq n m) (is_in n ns) (ne_eqb n m (λ (e : n ≡ m). All-head (λ m. m ≢ n) m ns apart (sym e))) (not_in n ns (All-tail (λ m. m ≢ n) m ns apart))

-- ---- what is kept so far: parts of the tables, not the last one, and with the numbers to come and the last one all

record AreSoFar (whole : Whole) (id : CycleId) (kept : List KeptPart) (coming : List ℕ) (last : ℕ) : Type 0 where
  are : AreKept kept
  all : All (IsPartOf whole) (parts_of id kept)
  but_last : All (λ (number : ℕ). number ≢ last) (numbers (parts_of id kept))
  range : All (IsInRange 1 (parts_of_whole whole)) coming
  others : All (λ (number : ℕ). number ≢ last) coming
  none_else : (number : ℕ) → IsInRange 1 (parts_of_whole whole) number → (is_in number (numbers (parts_of id kept)) || (is_in number coming || nat_eq number last)) ≡ true

part_is : (whole : Whole) (number : ℕ) → IsInRange 1 (parts_of_whole whole) number → IsPartOf whole (part_of_whole whole number)
part_is whole number range = record { number = range; is = refl }

numbers_within : (whole : Whole) (others : List Part) → All (IsPartOf whole) others → All (IsWithin 1 (parts_of_whole whole)) (numbers others)
numbers_within whole others all =
    All-map (IsWithin 1 (parts_of_whole whole)) (λ (one : Part). one.number) others
    (All-weaker (IsPartOf whole) (λ one. IsWithin 1 (parts_of_whole whole) one.number) (λ one is. within_range whole one is) others all)

-- ---- before the last one

awaiting_by : (whole : Whole) (number last : ℕ) (others : List Part) (b : Bool) → is_there (part_of_whole whole number) others ≡ b → AreSome others → All (IsPartOf whole) others
    → All (λ (other : ℕ). other ≢ last) (numbers others) → number ≢ last → IsInRange 1 (parts_of_whole whole) number → IsInRange 1 (parts_of_whole whole) last
    → (b || nat_lt (length others + 1) (parts_of_whole whole)) ≡ true
awaiting_by whole number last others true there some all but_last differs range end = refl
awaiting_by whole number last others false there some all but_last differs range end =
    let ns = numbers others in
    let longer = IsDistinct-push nat_eq_equiv ns number some.distinct (sym (there-is (part_of_whole whole number) others) ∙ there) in
    let more = ns ++ number ∷ [] in
    let apart : All (λ (other : ℕ). nat_eq last other ≡ false) more =
    All-weaker (λ (other : ℕ). other ≢ last) (λ (other : ℕ). nat_eq last other ≡ false) (λ other differs. ne_eqb last other (λ (e : last ≡ other). differs (sym e))) more
    (All-push (λ (other : ℕ). other ≢ last) ns number but_last differs) in
    let distinct = IsDistinct-cons nat_eq last more (recursion_from_All (λ (other : ℕ). nat_eq last other ≡ false) more apart) longer in
    let Within = IsWithin 1 (parts_of_whole whole) in
    let within = All-cons Within last more (record { least = end.0; most = omega (arith, end.1) })
    (All-push Within ns number (numbers_within whole others all) (record { least = range.0; most = omega (arith, range.1) })) in
    let few = few_numbers (parts_of_whole whole) 1 (last ∷ more) distinct within in
    let counted = length-append ns (number ∷ []) in
    let mapped = length-map others (λ (one : Part). one.number) in
    lt-ltb (length others + 1) (parts_of_whole whole) (omega (arith, few, counted, mapped))

keeps-it : (whole : Whole) (id : CycleId) (kept : List KeptPart) (number last : ℕ) (coming : List ℕ) → IsSendable whole → AreSoFar whole id kept (number ∷ coming) last
    → IsInRange 1 (parts_of_whole whole) last → gathered id kept (part_of_whole whole number) ≡ Keep (part_of_whole whole number)
keeps-it whole id kept number last coming sendable so_far end =
    let part = part_of_whole whole number in
    let others = parts_of id kept in
    let range = All-head (IsInRange 1 (parts_of_whole whole)) number coming so_far.range in
    let differs = All-head (λ (number : ℕ). number ≢ last) number coming so_far.others in
    gathers-split whole part others sendable (so_far.are id) so_far.all (part_is whole number range)
    ∙ ap (λ (b : Bool). cond b (Keep part) (Complete whole))
    (awaiting_by whole number last others (is_there part others) refl (so_far.are id) so_far.all so_far.but_last differs range end)

-- ---- then it is kept

all_by : (whole : Whole) (part : Part) (others : List Part) (b : Bool) → All (IsPartOf whole) others → IsPartOf whole part → All (IsPartOf whole) (cond b others (others ++ part ∷ []))
all_by whole part others true all is = all
all_by whole part others false all is = All-push (IsPartOf whole) others part all is

but_last_by : (last : ℕ) (part : Part) (others : List Part) (b : Bool) → All (λ (number : ℕ). number ≢ last) (numbers others) → part.number ≢ last
    → All (λ (number : ℕ). number ≢ last) (numbers (cond b others (others ++ part ∷ [])))
but_last_by last part others true but_last differs = but_last
but_last_by last part others false but_last differs =
    subst (λ (ns : List ℕ). All (λ (number : ℕ). number ≢ last) ns) (sym (map-append (λ (one : Part). one.number) others (part ∷ [])))
    (All-push (λ (number : ℕ). number ≢ last) (numbers others) part.number but_last differs)

-- one of this number is kept then, and each one that was
there_then : (part : Part) (others : List Part) (n : ℕ) (b : Bool) → is_there part others ≡ b → (is_in n (numbers others) || nat_eq n part.number) ≡ true
    → is_in n (numbers (cond b others (others ++ part ∷ []))) ≡ true
there_then part others n true there e = same_or (is_in n (numbers others)) (nat_eq n part.number) e (λ same. ap (λ (m : ℕ). is_in m (numbers others)) (eqb-true n part.number same) ∙ sym (there-is part others) ∙ there)
  where
    same_or : (a b : Bool) → (a || b) ≡ true → (b ≡ true → a ≡ true) → a ≡ true
    same_or true b e from = refl
    same_or false b e from = from e
there_then part others n false there e =
    ap (is_in n) (map-append (λ (one : Part). one.number) others (part ∷ [])) ∙ list_any-append (nat_eq n) (numbers others) (part.number ∷ [])
    ∙ or_none (is_in n (numbers others)) (nat_eq n part.number) e
  where
    or_none : (a b : Bool) → (a || b) ≡ true → (a || (b || false)) ≡ true
    or_none true b e = refl
    or_none false true e = refl
    or_none false false e = e

moved_by : (kept here coming last : Bool) (after : Bool) → (kept || ((here || coming) || last)) ≡ true → ((kept || here) ≡ true → after ≡ true) → (after || (coming || last)) ≡ true
moved_by true here coming last after e then = or_left after (coming || last) (then refl)
moved_by false true coming last after e then = or_left after (coming || last) (then refl)
moved_by false false coming last after e then = or_right after (coming || last) e

so-far-more : (whole : Whole) (id : CycleId) (kept : List KeptPart) (number last : ℕ) (coming : List ℕ) → IsSendable whole → AreSoFar whole id kept (number ∷ coming) last
    → IsInRange 1 (parts_of_whole whole) last → AreSoFar whole id (with_kept id (part_of_whole whole number) kept) coming last
so-far-more whole id kept number last coming sendable so_far end =
    let part = part_of_whole whole number in
    let others = parts_of id kept in
    let Range = IsInRange 1 (parts_of_whole whole) in
    let range = All-head Range number coming so_far.range in
    let differs = All-head (λ (number : ℕ). number ≢ last) number coming so_far.others in
    let is = part_is whole number range in
    let then = parts_of-with id part kept in
    record {
      are = kept-with id part kept so_far.are (record { sent = sends-readable whole part sendable is; awaits = keeps-it whole id kept number last coming sendable so_far end });
      all = subst (λ (parts : List Part). All (IsPartOf whole) parts) (sym then) (all_by whole part others (is_there part others) so_far.all is);
      but_last = subst (λ (parts : List Part). All (λ (number : ℕ). number ≢ last) (numbers parts)) (sym then)
          (but_last_by last part others (is_there part others) so_far.but_last differs);
      range = All-tail Range number coming so_far.range;
      others = All-tail (λ (number : ℕ). number ≢ last) number coming so_far.others;
      none_else = λ n within.
          moved_by (is_in n (numbers others)) (nat_eq n number) (is_in n coming) (nat_eq n last) _ (so_far.none_else n within)
          (λ e. ap (λ (parts : List Part). is_in n (numbers parts)) then ∙ there_then part others n (is_there part others) refl e);
    }

-- ---- the last one

last-completes : (whole : Whole) (id : CycleId) (kept : List KeptPart) (last : ℕ) → IsSendable whole → AreSoFar whole id kept [] last → IsInRange 1 (parts_of_whole whole) last
    → gathered id kept (part_of_whole whole last) ≡ Complete whole
last-completes whole id kept last sendable so_far end =
    let part = part_of_whole whole last in
    let others = parts_of id kept in
    let none : is_there part others ≡ false = there-is part others ∙ not_in last (numbers others) so_far.but_last in
    let enough = many_numbers (parts_of_whole whole) 1 (last ∷ numbers others)
    (λ n within. let least = within.least in let most = within.most in swapped (is_in n (numbers others)) (nat_eq n last) (so_far.none_else n (least, omega (arith, most)))) in
    let mapped = length-map others (λ (one : Part). one.number) in
    let full : nat_lt (length others + 1) (parts_of_whole whole) ≡ false = le-ltb (length others + 1) (parts_of_whole whole) (omega (arith, enough, mapped)) in
    gathers-split whole part others sendable (so_far.are id) so_far.all (part_is whole last end)
    ∙ ap (λ (b : Bool). cond b (Keep part) (Complete whole)) (or_from (is_there part others) (nat_lt (length others + 1) (parts_of_whole whole)) none full)
  where
    swapped : (a b : Bool) → (a || (false || b)) ≡ true → (b || a) ≡ true
    swapped true true e = refl
    swapped true false e = refl
    swapped false true e = refl
    swapped false false e = e

-- ---- one after the other

comes : (whole : Whole) (id : CycleId) (coming : List ℕ) (last : ℕ) (kept : List KeptPart) → IsSendable whole → AreSoFar whole id kept coming last → IsInRange 1 (parts_of_whole whole) last
    → come_to id kept (map (part_of_whole whole) coming ++ part_of_whole whole last ∷ []) ≡ map Keep (map (part_of_whole whole) coming) ++ Complete whole ∷ []
comes whole id [] last kept sendable so_far end = ap (λ (got : Gathered). got ∷ []) (last-completes whole id kept last sendable so_far end)
comes whole id (number ∷ coming) last kept sendable so_far end =
    let part = part_of_whole whole number in
    let rest = map (part_of_whole whole) coming ++ part_of_whole whole last ∷ [] in
    ap (λ (got : Gathered). got ∷ come_to id (kept_after id kept got) rest) (keeps-it whole id kept number last coming sendable so_far end)
    ∙ ap (λ (later : List Gathered). Keep part ∷ later)
    (comes whole id coming last (with_kept id part kept) sendable (so-far-more whole id kept number last coming sendable so_far end) end)

-- ---- from no part on

empty_is : (parts : List Part) → length parts ≡ 0 → parts ≡ []
empty_is [] none = refl
empty_is (part ∷ parts) none = absurd (omega (arith, none))

reordered : (same among : Bool) → (same || among) ≡ true → (false || (among || same)) ≡ true
reordered true true e = refl
reordered true false e = refl
reordered false true e = refl
reordered false false e = e

starts : (whole : Whole) (id : CycleId) (kept : List KeptPart) (coming : List ℕ) (last : ℕ) → AreKept kept → count_of id kept ≡ 0 → AreAllNumbers (parts_of_whole whole) coming last
    → AreSoFar whole id kept coming last
starts whole id kept coming last are none all =
    let empty : parts_of id kept ≡ [] = empty_is (parts_of id kept) none in
    record {
      are = are;
      all = subst (λ (parts : List Part). All (IsPartOf whole) parts) (sym empty) (All-nil (IsPartOf whole));
      but_last = subst (λ (parts : List Part). All (λ (number : ℕ). number ≢ last) (numbers parts)) (sym empty) (All-nil (λ (number : ℕ). number ≢ last));
      range = All-tail (IsInRange 1 (parts_of_whole whole)) last coming all.range;
      others = all.first_time;
      none_else = λ number within.
          ap (λ (parts : List Part). is_in number (numbers parts) || (is_in number coming || nat_eq number last)) empty
          ∙ reordered (nat_eq number last) (is_in number coming) (in_from number (last ∷ coming) (all.all number within));
    }

pub gathers-in_any_order : GathersInAnyOrder
gathers-in_any_order whole id kept coming last sendable are none all =
    comes whole id coming last kept sendable (starts whole id kept coming last are none all) (All-head (IsInRange 1 (parts_of_whole whole)) last coming all.range)

-- What holds of the parts that are kept, as one more is kept and those of a cycle are dropped.
use Rattle.std.proofs.Common.{arith, ◌≡◌, ◌<◌, ◌+◌, ◌==◌, ◌∙◌, ℕ, List, [], ◌∷◌, ◌++◌, length, map, filter, append-nil, All, Bool, true, false, not, cond, ◌||◌, nat_eq, nat_lt, refl, sym, ap, subst}
use Rattle.std.specs.List.{IsDistinct, list_all}
use Rattle.std.proofs.lemmas.Bool.{and_parts, eqb-true, ltb-true}
use Rattle.std.proofs.lemmas.Cmp.{nat_eq_equiv}
use Rattle.std.proofs.lemmas.List.{length-append, map-append}
use Rattle.std.proofs.lemmas.List.Elements.{All-cons, All-head, All-nil, All-push, All-weaker, filter-append}
use Rattle.std.proofs.lemmas.Map.Keys.{IsDistinct-push}
use Rattle.gi_pairs.specs.Table.{same_hours}
use Rattle.gi_pairs.specs.declared.cycle_id.CycleId.{CycleId}
use Rattle.gi_messages.specs.Limits.{most_parts}
use Rattle.gi_facts.specs.Same.{same_cycle}
use Rattle.gi_facts.proofs.SameLemmas.{same_cycle-is, same_cycle-self}
use Rattle.gi_parts.specs.Gathering.{CanKeep, all_rows, are_too_many, gathered_with, go_together, goes_with, is_awaiting, is_whole, joined_with, overlap, same_rows, whole_of}
use Rattle.gi_parts.specs.Parts.{AreKept, AreSome, IsSent, count_of, is_of, is_there, parts_of, with_kept, without}
use Rattle.gi_parts.specs.declared.gathered.Gathered.{Gathered}
use Rattle.gi_parts.specs.declared.gathered.Gathered.TheVariants.{Complete, Keep, Refused}
use Rattle.gi_parts.specs.declared.gathered.PartFault.{PartFault}
use Rattle.gi_parts.specs.declared.gathered.PartFault.TheVariants.{PartDiffers, PartsOverlap, TooManyRows}
use Rattle.gi_parts.specs.declared.kept_parts.KeptPart.{KeptPart}
use Rattle.gi_parts.specs.declared.part.Array.TheVariants.{Processed, Confirmed}
use Rattle.gi_parts.specs.declared.part.Part.{Part}
use Rattle.gi_parts.specs.declared.part.Whole.{Whole}
use Rattle.gi_parts.proofs.Numbers.{is_in}

abbrev pub numbers : List Part → List ℕ
numbers parts = map (λ one. one.number) parts

-- ---- tests of parts

pub all_from : (test : Part → Bool) (parts : List Part) → list_all test parts ≡ true → All (λ one. test one ≡ true) parts
all_from test [] e = All-nil (λ one. test one ≡ true)
all_from test (one ∷ parts) e = let both = and_parts (test one) (list_all test parts) e in All-cons (λ one. test one ≡ true) one parts both.0 (all_from test parts both.1)

pub there-is : (part : Part) (others : List Part) → is_there part others ≡ is_in part.number (numbers others)
there-is part [] = refl
there-is part (one ∷ others) = ap (λ (b : Bool). (part.number == one.number) || b) (there-is part others)

pub as_many : (part one : Part) → goes_with part one ≡ true → part.parts ≡ one.parts
as_many part one goes =
    let rest = (and_parts (same_hours part.processed one.processed) _ goes).1 in
    eqb-true part.parts one.parts (and_parts (part.parts == one.parts) (not (part.number == one.number) || same_rows part one) rest).0

-- ---- what is to be kept

abbrev is_keep : Gathered → Bool
is_keep (Complete whole) = false
is_keep (Keep part) = true
is_keep (Refused fault) = false

never_joined : (overlaps many : Bool) (whole : Whole) → is_keep (cond overlaps (Refused PartsOverlap) (cond many (Refused TooManyRows) (Complete whole))) ≡ false
never_joined true many whole = refl
never_joined false true whole = refl
never_joined false false whole = refl

record Tests (whole goes awaits : Bool) : Type 0 where
  several : whole ≡ false
  together : goes ≡ true
  awaiting : awaits ≡ true

by_tests : (whole together awaiting : Bool) (complete : Whole) (fault : PartFault) (part : Part) (last : Gathered) → is_keep last ≡ false
    → is_keep (cond whole (Complete complete) (cond (not together) (Refused fault) (cond awaiting (Keep part) last))) ≡ true → Tests whole together awaiting
by_tests true together awaiting complete fault part last none e = absurd cc
by_tests false false awaiting complete fault part last none e = absurd cc
by_tests false true false complete fault part last none e = absurd (let no : false ≡ true = sym none ∙ e in cc)
by_tests false true true complete fault part last none e = record { several = refl; together = refl; awaiting = refl }

awaits : (part : Part) (others : List Part) (other : Part) → gathered_with part others ≡ Keep other → Tests (is_whole part) (go_together part others) (is_awaiting part others)
awaits part others other e =
    let processed = all_rows Processed part others in
    let confirmed = all_rows Confirmed part others in
    by_tests (is_whole part) (go_together part others) (is_awaiting part others) (record { processed = part.processed; confirmed = part.confirmed }) (PartDiffers part.number) part
    (joined_with part processed confirmed) (never_joined (overlap processed confirmed) (are_too_many processed confirmed) (whole_of part processed confirmed)) (ap is_keep e)

-- ---- one more part of a cycle

missing_more : (there more : Bool) → (there || more) ≡ true → there ≡ false → more ≡ true
missing_more true more e none = absurd cc
missing_more false more e none = e

pub some-push : (part : Part) (others : List Part) → AreSome others → IsSent part → go_together part others ≡ true → is_awaiting part others ≡ true → is_there part others ≡ false
    → AreSome (others ++ part ∷ [])
some-push part others some sent together awaiting none =
    let all = others ++ part ∷ [] in
    let longer : length all ≡ length others + 1 = length-append others (part ∷ []) in
    let below : length others + 1 < part.parts = ltb-true (length others + 1) part.parts (missing_more (is_there part others) (nat_lt (length others + 1) part.parts) awaiting none) in
    let Few : Part → Type 0 = λ one. length all < one.parts in
    record {
      sent = All-push IsSent others part some.sent sent;
      distinct = subst (λ (ns : List ℕ). IsDistinct nat_eq ns) (sym (map-append (λ (one : Part). one.number) others (part ∷ [])))
          (IsDistinct-push nat_eq_equiv (numbers others) part.number some.distinct (sym (there-is part others) ∙ none));
      missing = All-push Few others part
          (All-weaker (λ one. goes_with part one ≡ true) Few (λ one goes. let same = as_many part one goes in omega (arith, longer, below, same)) others (all_from (goes_with part) others together))
          (omega (arith, longer, below));
    }

-- ---- the parts of a cycle, with one part more

one_by : (one : KeptPart) (b : Bool) → map (λ (one : KeptPart). one.part) (cond b (one ∷ []) []) ≡ cond b (one.part ∷ []) []
one_by one true = refl
one_by one false = refl

pub parts_of-push : (other id : CycleId) (part : Part) (kept : List KeptPart)
    → parts_of other (kept ++ record { id = id; part = part } ∷ []) ≡ parts_of other kept ++ cond (same_cycle id other) (part ∷ []) []
parts_of-push other id part kept =
    let one : KeptPart = record { id = id; part = part } in
    ap (map (λ (one : KeptPart). one.part)) (filter-append (is_of other) kept (one ∷ []))
    ∙ map-append (λ (one : KeptPart). one.part) (filter (is_of other) kept) (filter (is_of other) (one ∷ []))
    ∙ ap (λ (parts : List Part). parts_of other kept ++ parts) (one_by one (same_cycle id other))

some_by : (b : Bool) (other id : CycleId) (part : Part) (kept : List KeptPart) → same_cycle id other ≡ b → AreSome (parts_of other kept) → AreSome (parts_of id kept ++ part ∷ [])
    → AreSome (parts_of other kept ++ cond b (part ∷ []) [])
some_by true other id part kept same are more = subst (λ (cycle : CycleId). AreSome (parts_of cycle kept ++ part ∷ [])) (same_cycle-is id other same) more
some_by false other id part kept same are more = subst AreSome (sym (append-nil (parts_of other kept))) are

-- a part that is to be kept, and is not there
pub kept-more : (id : CycleId) (part : Part) (kept : List KeptPart) → AreKept kept → CanKeep id kept part → is_there part (parts_of id kept) ≡ false
    → AreKept (kept ++ record { id = id; part = part } ∷ [])
kept-more id part kept are can none = λ other.
    let tests = awaits part (parts_of id kept) part can.awaits in
    subst AreSome (sym (parts_of-push other id part kept))
    (some_by (same_cycle id other) other id part kept refl (are other) (some-push part (parts_of id kept) (are id) can.sent tests.together tests.awaiting none))

with_by : (id : CycleId) (part : Part) (kept : List KeptPart) (b : Bool) → is_there part (parts_of id kept) ≡ b → AreKept kept → CanKeep id kept part
    → AreKept (cond b kept (kept ++ record { id = id; part = part } ∷ []))
with_by id part kept true there are can = are
with_by id part kept false there are can = kept-more id part kept are can there

pub kept-with : (id : CycleId) (part : Part) (kept : List KeptPart) → AreKept kept → CanKeep id kept part → AreKept (with_kept id part kept)
kept-with id part kept are can = with_by id part kept (is_there part (parts_of id kept)) refl are can

-- the parts of its cycle then
own_by : (id : CycleId) (part : Part) (kept : List KeptPart) (b : Bool)
    → parts_of id (cond b kept (kept ++ record { id = id; part = part } ∷ [])) ≡ cond b (parts_of id kept) (parts_of id kept ++ part ∷ [])
own_by id part kept true = refl
own_by id part kept false =
    parts_of-push id id part kept ∙ ap (λ (b : Bool). parts_of id kept ++ cond b (part ∷ []) []) (same_cycle-self id)

pub parts_of-with : (id : CycleId) (part : Part) (kept : List KeptPart)
    → parts_of id (with_kept id part kept) ≡ cond (is_there part (parts_of id kept)) (parts_of id kept) (parts_of id kept ++ part ∷ [])
parts_of-with id part kept = own_by id part kept (is_there part (parts_of id kept))

longer_by : (part : Part) (others : List Part) (b : Bool) → length (cond b others (others ++ part ∷ [])) ≡ cond b (length others) (length others + 1)
longer_by part others true = refl
longer_by part others false = length-append others (part ∷ [])

pub count-with : (id : CycleId) (part : Part) (kept : List KeptPart)
    → count_of id (with_kept id part kept) ≡ cond (is_there part (parts_of id kept)) (count_of id kept) (count_of id kept + 1)
count-with id part kept = ap length (parts_of-with id part kept) ∙ longer_by part (parts_of id kept) (is_there part (parts_of id kept))

-- ---- the parts of other cycles are left

none_by : (test : KeptPart → Bool) (one : KeptPart) (rest : List KeptPart) (b : Bool) → test one ≡ b → filter test rest ≡ [] → filter test (cond (not b) (one ∷ rest) rest) ≡ []
none_by test one rest true is none = none
none_by test one rest false is none = ap (λ (b : Bool). cond b (one ∷ filter test rest) (filter test rest)) is ∙ none

none_left : (test : KeptPart → Bool) (kept : List KeptPart) → filter test (filter (λ one. not (test one)) kept) ≡ []
none_left test [] = refl
none_left test (one ∷ kept) = none_by test one (filter (λ one. not (test one)) kept) (test one) refl (none_left test kept)

left_by : (test other : KeptPart → Bool) (one : KeptPart) (rest kept : List KeptPart) (b : Bool) → (b ≡ true → test one ≡ false) → filter test rest ≡ filter test kept
    → filter test (cond (not b) (one ∷ rest) rest) ≡ cond (test one) (one ∷ filter test kept) (filter test kept)
left_by test other one rest kept true apart left = left ∙ sym (ap (λ (b : Bool). cond b (one ∷ filter test kept) (filter test kept)) (apart refl))
left_by test other one rest kept false apart left = ap (λ (more : List KeptPart). cond (test one) (one ∷ more) more) left

all_left : (test other : KeptPart → Bool) → ((one : KeptPart) → other one ≡ true → test one ≡ false) → (kept : List KeptPart) → filter test (filter (λ one. not (other one)) kept) ≡ filter test kept
all_left test other apart [] = refl
all_left test other apart (one ∷ kept) = left_by test other one (filter (λ one. not (other one)) kept) kept (other one) (apart one) (all_left test other apart kept)

not_both : (b : Bool) → (b ≡ true → false ≡ true) → b ≡ false
not_both true never = absurd (let e : false ≡ true = never refl in cc)
not_both false never = refl

apart_from : (id other : CycleId) → same_cycle id other ≡ false → (one : KeptPart) → is_of id one ≡ true → is_of other one ≡ false
apart_from id other differs one is =
    not_both (is_of other one)
    (λ also. sym differs ∙ ap (λ (a : CycleId). same_cycle a other) (sym (same_cycle-is one.id id is)) ∙ also)

left_of : (b : Bool) (id other : CycleId) (kept : List KeptPart) → same_cycle id other ≡ b → parts_of other (without id kept) ≡ cond b [] (parts_of other kept)
left_of true id other kept same =
    ap (λ (a : CycleId). parts_of a (without id kept)) (sym (same_cycle-is id other same)) ∙ ap (map (λ (one : KeptPart). one.part)) (none_left (is_of id) kept)
left_of false id other kept same = ap (map (λ (one : KeptPart). one.part)) (all_left (is_of other) (is_of id) (apart_from id other same) kept)

pub parts_of-without : (id other : CycleId) (kept : List KeptPart) → parts_of other (without id kept) ≡ cond (same_cycle id other) [] (parts_of other kept)
parts_of-without id other kept = left_of (same_cycle id other) id other kept refl

pub some-none : AreSome []
unfolding IsDistinct
some-none = record { sent = All-nil IsSent; distinct = tt; missing = All-nil (λ (one : Part). 0 < one.parts) }

some_or_none : (b : Bool) (parts : List Part) → AreSome parts → AreSome (cond b [] parts)
some_or_none true parts are = some-none
some_or_none false parts are = are

pub kept-without : (id : CycleId) (kept : List KeptPart) → AreKept kept → AreKept (without id kept)
kept-without id kept are = λ other. subst AreSome (sym (parts_of-without id other kept)) (some_or_none (same_cycle id other) (parts_of other kept) (are other))

pub kept-none : AreKept []
kept-none = λ id. some-none

-- ---- how many there are

pub few-parts_of : (parts : List Part) → AreSome parts → length parts < most_parts
few-parts_of [] are = omega arith
few-parts_of (one ∷ parts) are =
    let missing = All-head (λ other. length (one ∷ parts) < other.parts) one parts are.missing in
    let few = (All-head IsSent one parts are.sent).few_parts in
    omega (arith, missing, few)

pub few-with : (id : CycleId) (part : Part) (kept : List KeptPart) → AreKept kept → CanKeep id kept part → count_of id (with_kept id part kept) < most_parts
few-with id part kept are can = few-parts_of (parts_of id (with_kept id part kept)) (kept-with id part kept are can id)

pub count-there : (id : CycleId) (part : Part) (kept : List KeptPart) → is_there part (parts_of id kept) ≡ true → count_of id kept ≡ count_of id (with_kept id part kept)
count-there id part kept there = sym (count-with id part kept ∙ ap (λ (b : Bool). cond b (count_of id kept) (count_of id kept + 1)) there)

pub count-more : (id : CycleId) (part : Part) (kept : List KeptPart) → is_there part (parts_of id kept) ≡ false → count_of id kept + 1 ≡ count_of id (with_kept id part kept)
count-more id part kept none = sym (count-with id part kept ∙ ap (λ (b : Bool). cond b (count_of id kept) (count_of id kept + 1)) none)

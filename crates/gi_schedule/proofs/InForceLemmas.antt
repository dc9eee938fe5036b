-- The last number below another one that passes a test, and the hours of a gas day.
use Rattle.std.proofs.Common.{◌≡◌, ◌<◌, ◌≤◌, ◌+◌, ◌-◌, ℕ, zero, suc, List, [], ◌∷◌, ◌++◌, take, filter_map, Bool, true, false, Option, Some, None, refl, sym, ap, ◌∙◌, arith, append_assoc, append-nil, subst, nat_lt, below_more, Bor, is_some, length, length-append}
use Rattle.std.specs.Prelude.{if◌then◌else◌, MatchOption, All, option_map}
use Rattle.std.specs.Option.{option_copied}
use Rattle.std.specs.List.{AllByRecursion, cons_option, flat_map, range_with_len}
use Rattle.std.proofs.lemmas.Bool.{ltb-true}
use Rattle.std.proofs.lemmas.Bool.Decides.{nat_tests}
use Rattle.std.proofs.lemmas.List.Elements.{All-append, All-from_recursion, All-head, All-nil, All-tail, All-take}
use Rattle.jiff_core.specs.declared.civil.date.Date.{Date}
use Rattle.gi_pairs.specs.Limits.{last_hour}
use Rattle.gi_pairs.specs.declared.cycle_id.CycleId.{CycleId}
use Rattle.gi_pairs.specs.declared.side.Side.{Side}
use Rattle.gi_messages.specs.Limits.{last_cycle}
use Rattle.gi_facts.specs.Same.{same_cycle}
use Rattle.gi_facts.specs.Writable.{FitsFact}
use Rattle.gi_facts.specs.declared.fact.Fact.{Fact}
use Rattle.gi_facts.specs.declared.fact.Fact.TheVariants.{Closed, Contracted, Met, Nominated, Noticed}
use Rattle.gi_facts.proofs.SameLemmas.{same_cycle-is}
use Rattle.gi_desk.specs.History.{peer_in}
use Rattle.gi_desk.specs.Machine.{DeskState}
use Rattle.gi_desk.specs.Queries.{confirmed}
use Rattle.gi_desk.proofs.CycleLaws.{none_of}
use Rattle.gi_schedule.specs.InForce.{Confirmed, IsInForce, covers, cycle_in_force, cycle_of, hour_if, hours_in_force, is_covered, last_below}
use Rattle.gi_schedule.specs.declared.hour_in_force.HourInForce.{HourInForce}

-- ---- the last number below

pub none_below : (test : ℕ → Bool) → last_below test 0 ≡ None
unfolding last_below
none_below test = refl

last_suc : (test : ℕ → Bool) (n : ℕ) → last_below test (suc n) ≡ (if test n then Some n else last_below test n)
unfolding last_below
last_suc test n = refl

last_more : (test : ℕ → Bool) (n : ℕ) → last_below test (n + 1) ≡ (if test n then Some n else last_below test n)
last_more test n = let next : n + 1 ≡ suc n = omega arith in ap (last_below test) next ∙ last_suc test n

pub last_passes : (test : ℕ → Bool) (n : ℕ) (passes : Bool) → passes ≡ test n → passes ≡ true → Some n ≡ last_below test (n + 1)
last_passes test n passes is true_is = sym (last_more test n ∙ ap (λ b. if b then Some n else last_below test n) (sym is ∙ true_is))

pub last_stays : (test : ℕ → Bool) (n : ℕ) (passes : Bool) (found : Option ℕ) → passes ≡ test n → passes ≡ false → found ≡ last_below test n → found ≡ last_below test (n + 1)
last_stays test n passes found is false_is found_is = found_is ∙ sym (last_more test n ∙ ap (λ b. if b then Some n else last_below test n) (sym is ∙ false_is))

-- the numbers below n behind the last that passes do not, and none does where there is none
abbrev IsLast : (ℕ → Bool) → ℕ → Option ℕ → Type 0
IsLast test n None = (m : ℕ) → m < n → test m ≡ false
IsLast test n (Some last) = (test last ≡ true) × ((m : ℕ) → last < m → m < n → test m ≡ false)

last_is : (test : ℕ → Bool) (n : ℕ) → IsLast test n (last_below test n)
unfolding last_below
last_is test zero = λ m below. absurd (omega (arith, below))
last_is test (suc n) = by (test n) refl (last_below test n) (last_is test n)
  where
    by : (b : Bool) → test n ≡ b → (o : Option ℕ) → IsLast test n o → IsLast test (suc n) (if b then Some n else o)
    by true here o is = (here, λ m above below. absurd (omega (arith, above, below)))
    by false here None is = λ m below. below_more (λ m. test m ≡ false) n is here m (omega (arith, below))
    by false here (Some last) is =
        (is.0, λ m above below. below_more (λ m. last < m → test m ≡ false) n (λ m low high. is.1 m high low) (λ high. here) m (omega (arith, below)) above)

pub last_found : (test : ℕ → Bool) (n last : ℕ) → last_below test n ≡ Some last → test last ≡ true
last_found test n last is = let h = last_is test n in (subst (IsLast test n) is h).0

-- ---- no cycle behind the last number is confirmed

unmet_beyond : (id : CycleId) (facts : List Fact) → last_cycle < id.cycle → All FitsFact facts → filter_map (peer_in id) facts ≡ []
unmet_beyond id [] beyond fits = refl
unmet_beyond id (Contracted contract ∷ facts) beyond fits = unmet_beyond id facts beyond (All-tail FitsFact (Contracted contract) facts fits)
unmet_beyond id (Noticed notice ∷ facts) beyond fits = unmet_beyond id facts beyond (All-tail FitsFact (Noticed notice) facts fits)
unmet_beyond id (Nominated document ∷ facts) beyond fits = unmet_beyond id facts beyond (All-tail FitsFact (Nominated document) facts fits)
unmet_beyond id (Closed other rule ∷ facts) beyond fits = unmet_beyond id facts beyond (All-tail FitsFact (Closed other rule) facts fits)
unmet_beyond id (Met other peer ∷ facts) beyond fits = by (same_cycle other id) refl (unmet_beyond id facts beyond (All-tail FitsFact (Met other peer) facts fits))
  where
    first : FitsFact (Met other peer)
    first = All-head FitsFact (Met other peer) facts fits

    by : (b : Bool) → same_cycle other id ≡ b → filter_map (peer_in id) facts ≡ [] → cons_option (if b then Some peer else None) (filter_map (peer_in id) facts) ≡ []
    by true same rest = let number = ap (λ (id : CycleId). id.cycle) (same_cycle-is other id same) in absurd (omega (arith, number, beyond, first.0.cycle))
    by false same rest = rest

unconfirmed_beyond : (side : Side) (s : DeskState) (id : CycleId) → All FitsFact s.facts → last_cycle < id.cycle → confirmed side s id ≡ None
unfolding confirmed
unconfirmed_beyond side s id fits beyond =
    ap (option_map _) (none_of (take s.saved s.facts) id (unmet_beyond id (take s.saved s.facts) beyond (All-take FitsFact s.saved s.facts fits)))

-- ---- the cycle in force

abbrev AnswersInForce : Confirmed → Date → ℕ → Option ℕ → Type 0
AnswersInForce confirmed day hour found = MatchOption found ((cycle : ℕ) → is_covered confirmed day hour cycle ≡ false) (IsInForce confirmed day hour)

pub in_force : (side : Side) (s : DeskState) (day : Date) (hour : ℕ) (found : Option ℕ) (end : ℕ) → All FitsFact s.facts → end ≡ last_cycle + 1
    → found ≡ last_below (is_covered (confirmed side s) day hour) end
    → MatchOption found ((cycle : ℕ) → is_covered (confirmed side s) day hour cycle ≡ false) (IsInForce (confirmed side s) day hour)
in_force side s day hour found end fits ends is =
    subst (AnswersInForce (confirmed side s) day hour) (sym (is ∙ ap (last_below test) ends)) (by (last_below test (last_cycle + 1)) (last_is test (last_cycle + 1)))
  where
    test : ℕ → Bool
    test = is_covered (confirmed side s) day hour

    beyond : (cycle : ℕ) → last_cycle < cycle → test cycle ≡ false
    beyond cycle high = ap (covers hour) (unconfirmed_beyond side s (cycle_of day cycle) fits high)

    any : (first cycle : ℕ) → ((m : ℕ) → first < m → m < last_cycle + 1 → test m ≡ false) → first < cycle → test cycle ≡ false
    any first cycle low above = by_bound (nat_lt cycle (last_cycle + 1)) refl
      where
        by_bound : (b : Bool) → nat_lt cycle (last_cycle + 1) ≡ b → test cycle ≡ false
        by_bound true below = low cycle above (ltb-true cycle (last_cycle + 1) below)
        by_bound false past = beyond cycle (grind (arith, nat_tests, past))

    none : (cycle : ℕ) → ((m : ℕ) → m < last_cycle + 1 → test m ≡ false) → test cycle ≡ false
    none cycle low = by_bound (nat_lt cycle (last_cycle + 1)) refl
      where
        by_bound : (b : Bool) → nat_lt cycle (last_cycle + 1) ≡ b → test cycle ≡ false
        by_bound true below = low cycle (ltb-true cycle (last_cycle + 1) below)
        by_bound false past = beyond cycle (grind (arith, nat_tests, past))

    by : (o : Option ℕ) → IsLast test (last_cycle + 1) o → AnswersInForce (confirmed side s) day hour o
    by None low = λ cycle. none cycle low
    by (Some last) is = record { covered = is.0; last = λ later above. any last later is.1 above }

-- ---- numbers in turn

-- what numbers from one on give, the last of them apart
pub last_apart : {X : Type 0} (f : ℕ → List X) (from count : ℕ) → flat_map f (range_with_len from (suc count)) ≡ flat_map f (range_with_len from count) ++ f (from + count)
last_apart f from zero = append-nil (f from) ∙ ap f (omega arith)
last_apart f from (suc count) =
    let next : (from + 1) + count ≡ from + suc count = omega arith in
    ap (λ later. f from ++ later) (last_apart f (from + 1) count ∙ ap (λ n. flat_map f (range_with_len (from + 1) count) ++ f n) next)
    ∙ sym (append_assoc (f from) (flat_map f (range_with_len (from + 1) count)) (f (from + suc count)))

pub number_more : {X : Type 0} (f : ℕ → List X) (from n : ℕ) (old added new : List X) → from ≤ n → old ≡ flat_map f (range_with_len from (n - from)) → added ≡ f n → new ≡ old ++ added
    → new ≡ flat_map f (range_with_len from (n + 1 - from))
number_more f from n old added new above old_is added_is new_is =
    let here : from + (n - from) ≡ n = omega (arith, above) in
    let longer : suc (n - from) ≡ n + 1 - from = omega (arith, above) in
    new_is ∙ (λ t. old_is t ++ added_is t) ∙ ap (λ m. flat_map f (range_with_len from (n - from)) ++ f m) (sym here)
    ∙ sym (last_apart f from (n - from)) ∙ ap (λ count. flat_map f (range_with_len from count)) longer

-- the same behind what was there before
pub number_added : {X : Type 0} (f : ℕ → List X) (from n : ℕ) (first old added new : List X) → from ≤ n → old ≡ first ++ flat_map f (range_with_len from (n - from))
    → added ≡ f n → new ≡ old ++ added → new ≡ first ++ flat_map f (range_with_len from (n + 1 - from))
number_added {X = X} f from n first old added new above old_is added_is new_is =
    let before = flat_map f (range_with_len from (n - from)) in
    new_is ∙ ap (λ (l : List X). l ++ added) old_is ∙ append_assoc first before added
    ∙ ap (λ (l : List X). first ++ l) (number_more f from n before added (before ++ added) above refl added_is refl)

-- ---- the hours of a gas day

pub hours_all : (confirmed : Confirmed) (day : Date) (end : ℕ) → end ≡ last_hour + 1
    → flat_map (λ hour. hour_if hour (cycle_in_force confirmed day hour)) (range_with_len 1 (end - 1)) ≡ hours_in_force confirmed day
unfolding hours_in_force
hours_all confirmed day end is =
    let all : end - 1 ≡ last_hour = omega (arith, is) in
    ap (λ count. flat_map (λ hour. hour_if hour (cycle_in_force confirmed day hour)) (range_with_len 1 count)) all

one_if : (hour : ℕ) (cycle : Option ℕ) → length (hour_if hour cycle) ≤ 1
one_if hour None = omega arith
one_if hour (Some cycle) = omega arith

hours_from : (cycle : ℕ → Option ℕ) (from count : ℕ) → length (flat_map (λ hour. hour_if hour (cycle hour)) (range_with_len from count)) ≤ count
hours_from cycle from zero = omega arith
hours_from cycle from (suc count) =
    let later = hours_from cycle (from + 1) count in
    let one = one_if from (cycle from) in
    omega (arith, later, one, length-append (hour_if from (cycle from)) (flat_map (λ hour. hour_if hour (cycle hour)) (range_with_len (from + 1) count)))

-- an hour that is listed has the cycle that is in force for it
each_if : (cycle : ℕ → Option ℕ) (hour : ℕ) (o : Option ℕ) → cycle hour ≡ o → AllByRecursion (λ (at : HourInForce). cycle at.hour ≡ Some at.cycle) (hour_if hour o)
each_if cycle hour None is = tt
each_if cycle hour (Some n) is = (is, tt)

each_from : (cycle : ℕ → Option ℕ) (from count : ℕ)
    → All (λ (at : HourInForce). cycle at.hour ≡ Some at.cycle) (flat_map (λ hour. hour_if hour (cycle hour)) (range_with_len from count))
each_from cycle from zero = let P : HourInForce → Type 0 = λ at. cycle at.hour ≡ Some at.cycle in All-nil P
each_from cycle from (suc count) =
    let P : HourInForce → Type 0 = λ at. cycle at.hour ≡ Some at.cycle in
    All-append P (hour_if from (cycle from)) (flat_map (λ hour. hour_if hour (cycle hour)) (range_with_len (from + 1) count))
    (All-from_recursion P (hour_if from (cycle from)) (each_if cycle from (cycle from) refl)) (each_from cycle (from + 1) count)

pub hours_are_in_force : (confirmed : Confirmed) (day : Date) → All (λ (at : HourInForce). cycle_in_force confirmed day at.hour ≡ Some at.cycle) (hours_in_force confirmed day)
unfolding hours_in_force
hours_are_in_force confirmed day = each_from (cycle_in_force confirmed day) 1 last_hour

pub few_hours : (confirmed : Confirmed) (day : Date) (hours : List HourInForce) → hours ≡ hours_in_force confirmed day → length hours ≤ last_hour
unfolding hours_in_force
few_hours confirmed day hours is =
    let few = hours_from (cycle_in_force confirmed day) 1 last_hour in subst (λ (l : List HourInForce). length l ≤ last_hour) (sym is) few

-- ---- what is referred to

pub some_copied : {X : Type 0} (o : Option (Bor X)) → is_some o ≡ is_some (option_copied o)
some_copied None = refl
some_copied (Some x) = refl

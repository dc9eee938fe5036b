-- What is read from the stages is what the facts say.
use Rattle.std.proofs.Common.{arith, ◌≡◌, ◌<◌, ◌≤◌, ◌+◌, ℕ, List, [], ◌∷◌, ◌++◌, length, take_while, Bool, true, false, cond, not, ◌||◌, Option, Some, None, is_some, refl, sym, ap, ◌∙◌, subst}
use Rattle.std.specs.Prelude.{option_map}
use Rattle.std.specs.BTreeMap.{BTreeMap}
use Rattle.std.specs.BTreeMap.Range.{IsInRange, IsLeBy, IsRangeOf}
use Rattle.std.specs.Int.{IsInRange as IsWithin}
use Rattle.std.specs.List.{list_any}
use Rattle.std.specs.Option.{IsSome, unwrap_or}
use Rattle.std.specs.Ordering.{MatchOrdering, int_cmp, is_eq, is_gt, is_lt, nat_cmp, ordering_reverse, ordering_then}
use Rattle.std.specs.declared.cmp.Ordering.{Ordering}
use Rattle.std.specs.declared.cmp.Ordering.TheVariants.{Less, Equal, Greater}
use Rattle.std.specs.declared.ops.Bound.TheVariants.{Included}
use Rattle.std.specs.Cmp.{int_cmp_total, tied_itself}
use Rattle.std.proofs.lemmas.Bool.{both_ways, or_parts}
use Rattle.std.proofs.lemmas.Cmp.{ranked}
use Rattle.std.proofs.lemmas.List.Sums.{take_while-cons}
use Rattle.std.proofs.lemmas.Map.Keys.{ge_from_not_lt}
use Rattle.jiff_core.specs.Date.{epoch_day}
use Rattle.jiff_core.specs.declared.civil.date.Date.{Date}
use Rattle.gi_day.specs.Cycles.{cycle_count}
use Rattle.gi_day.proofs.DayFacts.{day_facts}
use Rattle.gi_day.proofs.DayLaws.{same_day-Decides}
use Rattle.gi_pairs.specs.CycleId.{answered}
use Rattle.gi_pairs.specs.Table.{TableContents}
use Rattle.gi_pairs.specs.declared.cycle_id.CycleId.{CycleId}
use Rattle.gi_pairs.specs.declared.side.Side.{Side}
use Rattle.gi_desk.specs.History.{facts_before, is_closed, is_closing, is_meeting, last_closed, number_of, peer_of, state_of, rule_in}
use Rattle.gi_desk.specs.Caches.{closed_state}
use Rattle.gi_desk.specs.Machine.{bad_fact}
use Rattle.gi_desk.specs.Stages.{AreStages, closed_stage, stage_at, stage_in}
use Rattle.gi_desk.specs.declared.stage.Stage.{Stage}
use Rattle.gi_facts.specs.declared.fact.Fact.{Fact}
use Rattle.gi_facts.specs.declared.fact.Fact.TheVariants.{Closed}
use Rattle.gi_facts.proofs.SameLemmas.{same_cycle-is}
use Rattle.gi_desk.proofs.CycleLaws.{none_of, recorded-below, unmet}
use Rattle.gi_desk.proofs.LastClosed.{IsGreatest, last-greatest, one-greatest}
use Rattle.gi_desk.proofs.Legality.{legal-recorded}
use Rattle.gi_desk.proofs.StagesKept.{meets-any}
use Rattle.gi_processing.specs.declared.rule.Rule.{Rule}

-- ---- how far a cycle is

pub state-read : (side : Side) (facts : List Fact) (id : CycleId) (o : Option Stage) → o ≡ closed_stage side facts id → option_map (λ (s : Stage). s.state) o ≡ closed_state side facts id
state-read side facts id o is = ap (option_map (λ (s : Stage). s.state)) is ∙ by_closed (is_closed id facts)
  where
    by_closed : (b : Bool) → option_map (λ (s : Stage). s.state) (cond b (Some (stage_at side facts id)) None) ≡ cond b (Some (state_of side facts id)) None
    by_closed true = refl
    by_closed false = refl

pub closed-read : (side : Side) (facts : List Fact) (id : CycleId) (o : Option Stage) → o ≡ closed_stage side facts id → is_some o ≡ is_closed id facts
closed-read side facts id o is = ap is_some is ∙ by_closed (is_closed id facts)
  where
    by_closed : (b : Bool) → is_some (cond b (Some (stage_at side facts id)) None) ≡ b
    by_closed true = refl
    by_closed false = refl

-- ---- the numbers of its facts

all_pass : (is : Fact → Bool) (facts : List Fact) → list_any is facts ≡ false → take_while (λ f. not (is f)) facts ≡ facts
all_pass is [] none = refl
all_pass is (fact ∷ facts) none =
    let parts = or_parts (is fact) (list_any is facts) none in
    take_while-cons (λ f. not (is f)) fact facts
    ∙ ap (λ (b : Bool). cond (not b) (fact ∷ take_while (λ f. not (is f)) facts) []) parts.0
    ∙ ap (λ (fs : List Fact). fact ∷ fs) (all_pass is facts parts.1)

number_of-none : (is : Fact → Bool) (facts : List Fact) → list_any is facts ≡ false → number_of is facts ≡ length facts + 1
unfolding number_of facts_before
number_of-none is facts none = ap (λ (fs : List Fact). length fs + 1) (all_pass is facts none)

-- the number of the closing, or one more than there are facts
abbrev pub closing_or : ℕ → Option Stage → ℕ
closing_or more None = more
closing_or more (Some stage) = stage.closing

pub closing-read : (side : Side) (facts : List Fact) (id : CycleId) (o : Option Stage) → o ≡ closed_stage side facts id → closing_or (length facts + 1) o ≡ number_of (is_closing id) facts
unfolding is_closed
closing-read side facts id o is = ap (closing_or (length facts + 1)) is ∙ by_closed (is_closed id facts) refl
  where
    by_closed : (b : Bool) → is_closed id facts ≡ b → closing_or (length facts + 1) (cond b (Some (stage_at side facts id)) None) ≡ number_of (is_closing id) facts
    by_closed true closed = refl
    by_closed false unclosed = sym (number_of-none (is_closing id) facts unclosed)

-- the same of the meeting
abbrev pub meeting_or : ℕ → Option Stage → ℕ
meeting_or more None = more
meeting_or more (Some stage) = unwrap_or stage.meeting more

met_number : (id : CycleId) (facts : List Fact) (o : Option TableContents) → peer_of id facts ≡ o
    → unwrap_or (option_map (λ (peer : TableContents). number_of (is_meeting id) facts) o) (length facts + 1) ≡ number_of (is_meeting id) facts
met_number id facts (Some peer) met = refl
met_number id facts None none = sym (number_of-none (is_meeting id) facts (meets-any id facts ∙ ap is_some none))

pub meeting-read : (side : Side) (point : List ℕ) (facts : List Fact) (id : CycleId) (o : Option Stage) → bad_fact side point facts ≡ None → o ≡ closed_stage side facts id
    → meeting_or (length facts + 1) o ≡ number_of (is_meeting id) facts
meeting-read side point facts id o legal is = ap (meeting_or (length facts + 1)) is ∙ by_closed (is_closed id facts) refl
  where
    by_closed : (b : Bool) → is_closed id facts ≡ b → meeting_or (length facts + 1) (cond b (Some (stage_at side facts id)) None) ≡ number_of (is_meeting id) facts
    by_closed true closed = met_number id facts (peer_of id facts) refl
    by_closed false unclosed =
        let none = none_of facts id (unmet side point facts id legal unclosed) in
        sym (number_of-none (is_meeting id) facts (meets-any id facts ∙ ap is_some none))

-- ---- the cycle of a gas day that was closed last

-- a closed cycle was closed by a fact
record IsClosedBy (id : CycleId) (facts : List Fact) : Type 0 where
  rule : Rule
  front : List Fact
  back : List Fact
  is : facts ≡ front ++ Closed id rule ∷ back

closing_is : (id : CycleId) (fact : Fact) → is_closing id fact ≡ true → fact ≡ Closed id (rule_in fact)
closing_is id (Closed other rule) e = ap (λ (c : CycleId). Closed c rule) (same_cycle-is other id e)
closing_is id fact e = absurd cc

closed_by : (id : CycleId) (facts : List Fact) → list_any (is_closing id) facts ≡ true → IsClosedBy id facts
closed_by id [] e = absurd cc
closed_by id (fact ∷ facts) e = by_first (is_closing id fact) refl e (closed_by id facts)
  where
    by_first : (b : Bool) → is_closing id fact ≡ b → (b || list_any (is_closing id) facts) ≡ true → (list_any (is_closing id) facts ≡ true → IsClosedBy id facts) → IsClosedBy id (fact ∷ facts)
    by_first true here any rest = record { rule = rule_in fact; front = []; back = facts; is = ap (λ (f : Fact). f ∷ facts) (closing_is id fact here) }
    by_first false here any rest = let later = rest any in record { rule = later.rule; front = fact ∷ later.front; back = later.back; is = ap (λ (fs : List Fact). fact ∷ fs) later.is }

-- its number is one that its gas day has
closed_below : (side : Side) (point : List ℕ) (facts : List Fact) (id : CycleId) → bad_fact side point facts ≡ None → is_closed id facts ≡ true → id.cycle ≤ 255
unfolding is_closed
closed_below side point facts id legal closed =
    let by = closed_by id facts closed in
    let recorded = legal-recorded side point by.front (Closed id by.rule) by.back (subst (λ (fs : List Fact). bad_fact side point fs ≡ None) by.is legal) in
    let below = recorded-below side point by.front id by.rule recorded in
    let few : IsWithin 35 37 (cycle_count id.day) = (day_facts id.day).count_in in
    omega (arith, below, few)

abbrev pub first_of : Date → CycleId
first_of day = record { day = day; cycle = 0 }

abbrev pub last_of : Date → CycleId
last_of day = record { day = day; cycle = 255 }

same_reflexive : (day : Date) → int_cmp (epoch_day day) (epoch_day day) ≡ Equal
same_reflexive day = tied_itself int_cmp_total (epoch_day day)

le_not_gt : (a b : ℕ) → a ≤ b → is_gt (nat_cmp a b) ≡ false
le_not_gt a b below = by_order (nat_cmp a b) (ranked a b (nat_cmp a b) refl)
  where
    by_order : (o : Ordering) → MatchOrdering o (a < b) (a ≡ b) (b < a) → is_gt o ≡ false
    by_order Less here = refl
    by_order Equal here = refl
    by_order Greater here = absurd (omega (arith, below, here))

-- the names between the first and the last of a gas day are those of the day
between_day : (day : Date) (id : CycleId) → IsInRange answered (Included (first_of day)) (Included (last_of day)) id → id.day ≡ day
between_day day id in_range =
    sym ((same_day-Decides day id.day).0 (by_orders (int_cmp (epoch_day day) (epoch_day id.day)) (int_cmp (epoch_day id.day) (epoch_day day)) (nat_cmp 0 id.cycle) (nat_cmp id.cycle 255)
    (int_cmp_total.antisymm (epoch_day id.day) (epoch_day day)) in_range.0 in_range.1))
  where
    by_orders : (o p first last : Ordering) → p ≡ ordering_reverse o → is_gt (ordering_then o first) ≡ false → is_gt (ordering_then p last) ≡ false → is_eq o ≡ true
    by_orders Less p first last flips from to = absurd (cc (flips, to))
    by_orders Equal p first last flips from to = refl
    by_orders Greater p first last flips from to = absurd cc

day_between : (day : Date) (id : CycleId) → id.day ≡ day → id.cycle ≤ 255 → IsInRange answered (Included (first_of day)) (Included (last_of day)) id
day_between day id of below = subst (λ (d : Date). IsInRange answered (Included (first_of d)) (Included (last_of d)) id) of (
  ap (λ (o : Ordering). is_gt (ordering_then o (nat_cmp 0 id.cycle))) (same_reflexive id.day) ∙ le_not_gt 0 id.cycle (omega arith),
  ap (λ (o : Ordering). is_gt (ordering_then o (nat_cmp id.cycle 255))) (same_reflexive id.day) ∙ le_not_gt id.cycle 255 below,
)

has_stage : (entries : List (CycleId × Stage)) (side : Side) (facts : List Fact) (id : CycleId) → stage_in entries id ≡ closed_stage side facts id → is_closed id facts ≡ true → IsSome (stage_in entries id)
has_stage entries side facts id at closed =
    subst IsSome (sym (at ∙ ap (λ (b : Bool). cond b (Some (stage_at side facts id)) None) closed)) refl

-- what the range of a gas day ends with is its greatest
pub last-read : (side : Side) (point : List ℕ) (facts : List Fact) (day : Date) (stages : BTreeMap CycleId Stage) (range : List (CycleId × Stage)) → AreStages side point facts stages.entries
    → IsRangeOf answered (Included (first_of day)) (Included (last_of day)) stages range → (before : List (CycleId × Stage)) (entry : CycleId × Stage) → range ≡ before ++ entry ∷ []
    → Some entry.0.cycle ≡ last_closed day facts
last-read side point facts day stages range are in_range before entry is =
    let here = in_range.3 entry before is in
    let id = entry.0 in
    let of = between_day day id here.0 in
    let closed : is_closed id facts ≡ true = sym (closed-read side facts id (stage_in stages.entries id) (are.at id)) ∙ ap is_some here.1 in
    let greatest : IsGreatest day (λ other. is_closed other facts) (Some id.cycle) = (
      subst (λ (d : Date). is_closed (record { day = d; cycle = id.cycle }) facts ≡ true) of closed,
      λ other other_closed other_of.
          let within = day_between day other other_of (closed_below side point facts other are.legal other_closed) in
          let above = in_range.4 entry before is other within (has_stage stages.entries side facts other (are.at other) other_closed) in
          ge_from_not_lt id.cycle other.cycle (sym (ap (λ (o : Ordering). is_lt (ordering_then o (nat_cmp id.cycle other.cycle))) (ap (λ (d : Date). int_cmp (epoch_day id.day) (epoch_day d)) (other_of ∙ sym of) ∙ same_reflexive id.day)) ∙ above),
    ) in
    one-greatest day (λ other. is_closed other facts) (Some id.cycle) (last_closed day facts) greatest (last-greatest side point day facts are.legal)

pub none-read : (side : Side) (point : List ℕ) (facts : List Fact) (day : Date) (stages : BTreeMap CycleId Stage) (range : List (CycleId × Stage)) → AreStages side point facts stages.entries
    → IsRangeOf answered (Included (first_of day)) (Included (last_of day)) stages range → range ≡ [] → None ≡ last_closed day facts
none-read side point facts day stages range are in_range empty =
    let greatest : IsGreatest day (λ other. is_closed other facts) None =
    λ other closed of.
    let none = in_range.5 empty other (day_between day other of (closed_below side point facts other are.legal closed)) in
    both_ways (is_closed other facts) (sym (closed-read side facts other (stage_in stages.entries other) (are.at other)) ∙ ap is_some none) closed in
    one-greatest day (λ other. is_closed other facts) None (last_closed day facts) greatest (last-greatest side point day facts are.legal)

-- a range of a gas day runs forward
pub day-forward : (day : Date) → IsLeBy answered (first_of day) (last_of day)
day-forward day = ap (λ (o : Ordering). is_gt (ordering_then o (nat_cmp 0 255))) (same_reflexive day)

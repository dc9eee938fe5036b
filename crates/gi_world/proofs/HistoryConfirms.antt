-- What both sides confirm, told by their histories alone.
use Rattle.std.proofs.Common.{◌≡◌, ℕ, List, [], ◌∷◌, ◌++◌, filter, length, take, Bool, true, false, cond, Option, Some, None, is_some, option_map, refl, sym, ap, ◌∙◌}
use Rattle.std.specs.Prelude.{◌||◌, filter_map, slice_get}
use Rattle.std.specs.List.{cons_option, list_any}
use Rattle.std.proofs.lemmas.List.Elements.{filter-append}
use Rattle.gi_lesser.specs.Lesser.{lesser_of}
use Rattle.gi_pairs.specs.Table.{TableContents}
use Rattle.gi_pairs.specs.declared.cycle_id.CycleId.{CycleId}
use Rattle.gi_pairs.specs.declared.side.Side.{Side}
use Rattle.gi_pairs.specs.declared.side.Side.TheVariants.{I, M}
use Rattle.gi_facts.specs.Same.{same_cycle}
use Rattle.gi_facts.specs.declared.fact.Fact.{Fact}
use Rattle.gi_facts.specs.declared.fact.Fact.TheVariants.{Contracted, Noticed, Nominated, Closed, Met}
use Rattle.gi_desk.specs.History.{frozen_table, is_closed, is_closing, is_meeting, peer_in, peer_of}
use Rattle.gi_desk.specs.Machine.{bad_fact}
use Rattle.gi_desk.specs.Queries.{confirmed}
use Rattle.gi_facts.proofs.SameLemmas.{same_cycle-is}
use Rattle.gi_desk.proofs.CycleLaws.{closes-once}
use Rattle.gi_world.specs.Agreement.{FitsWorld, IsSound}
use Rattle.gi_world.specs.Confirming.{ConfirmsByHistory, IsLowerOfFrozen, closing_count, has_confirmed, table_confirmed}
use Rattle.gi_world.specs.Histories.{History, held, held_by, history_of}
use Rattle.gi_world.specs.World.{StationState, WorldState, station_of}
use Rattle.gi_world.proofs.ConfirmedLaws.{HaveMetFrozen, confirms-at-both, confirms-lower, sound-met}
use Rattle.gi_world.proofs.Meetings.{some_in}
use Rattle.gi_processing.specs.declared.rule.Rule.{Rule}

-- ---- a closed cycle is closed exactly once

-- the place of one that passes a test
record IsPassed {X : Type 0} (test : X → Bool) (xs : List X) : Type 0 where
  before : List X
  one : X
  later : List X
  passes : test one ≡ true
  is : xs ≡ before ++ one ∷ later

passed_by : {X : Type 0} (test : X → Bool) (b : Bool) (x : X) (xs : List X) → test x ≡ b → (list_any test xs ≡ true → IsPassed test xs) → (b || list_any test xs) ≡ true
    → IsPassed test (x ∷ xs)
passed_by test true x xs e rest any = record { before = []; one = x; later = xs; passes = e; is = refl }
passed_by {X} test false x xs e rest any =
    let found = rest any in
    record { before = x ∷ found.before; one = found.one; later = found.later; passes = found.passes; is = ap (λ (ys : List X). x ∷ ys) found.is }

passed : {X : Type 0} (test : X → Bool) (xs : List X) → list_any test xs ≡ true → IsPassed test xs
passed test [] any = absurd cc
passed test (x ∷ xs) any = passed_by test (test x) x xs refl (passed test xs) any

none_by : {X : Type 0} (b : Bool) (x : X) (rest : List X) (any : Bool) → (any ≡ false → rest ≡ []) → (b || any) ≡ false → cond b (x ∷ rest) rest ≡ []
none_by true x rest any later e = absurd cc
none_by false x rest any later e = later e

none_pass : {X : Type 0} (test : X → Bool) (xs : List X) → list_any test xs ≡ false → filter test xs ≡ []
none_pass test [] any = refl
none_pass test (x ∷ xs) any = none_by (test x) x (filter test xs) (list_any test xs) (none_pass test xs) any

-- a fact that closes the cycle is its closing
closing_is : (id : CycleId) (fact : Fact) → is_closing id fact ≡ true → (rule : Rule) × (fact ≡ Closed id rule)
closing_is id (Contracted contract) e = absurd cc
closing_is id (Noticed notice) e = absurd cc
closing_is id (Nominated document) e = absurd cc
closing_is id (Closed other rule) e = (rule, ap (λ (c : CycleId). Closed c rule) (same_cycle-is other id e))
closing_is id (Met other peer) e = absurd cc

one_passes : {X : Type 0} (test : X → Bool) (before later : List X) (x : X) → test x ≡ true → list_any test before ≡ false → list_any test later ≡ false
    → length (filter test (before ++ x ∷ later)) ≡ 1
one_passes test before later x passes first last =
    let split = filter-append test before (x ∷ later) in
    let none = none_pass test before first in
    let rest = none_pass test later last in
    ap length split ∙ rw (none, passes, rest) refl

closed_once : (side : Side) (point : List ℕ) (facts : List Fact) (id : CycleId) → bad_fact side point facts ≡ None → is_closed id facts ≡ true → closing_count id facts ≡ 1
unfolding is_closed
closed_once side point facts id legal closed =
    let found = passed (is_closing id) facts closed in
    let closing = closing_is id found.one found.passes in
    let is : facts ≡ found.before ++ Closed id closing.0 ∷ found.later = found.is ∙ ap (λ (fact : Fact). found.before ++ fact ∷ found.later) closing.1 in
    let once = closes-once side point found.before found.later id closing.0 (ap (bad_fact side point) (sym is) ∙ legal) in
    ap (closing_count id) found.is ∙ one_passes (is_closing id) found.before found.later found.one found.passes once.0 once.1

-- ---- a table is confirmed where a saved fact met one

first_met : (b : Bool) (peer : TableContents) (rest : List TableContents) (any : Bool) → is_some (slice_get rest 0) ≡ any
    → is_some (slice_get (cons_option (cond b (Some peer) None) rest) 0) ≡ (b || any)
first_met true peer rest any e = refl
first_met false peer rest any e = e

any_met : (id : CycleId) (facts : List Fact) → is_some (slice_get (filter_map (peer_in id) facts) 0) ≡ list_any (is_meeting id) facts
any_met id [] = refl
any_met id (Contracted contract ∷ facts) = any_met id facts
any_met id (Noticed notice ∷ facts) = any_met id facts
any_met id (Nominated document ∷ facts) = any_met id facts
any_met id (Closed other rule ∷ facts) = any_met id facts
any_met id (Met other peer ∷ facts) = first_met (same_cycle other id) peer (filter_map (peer_in id) facts) (list_any (is_meeting id) facts) (any_met id facts)

some_mapped : {X Y : Type 0} (f : X → Y) (o : Option X) → is_some (option_map f o) ≡ is_some o
some_mapped f None = refl
some_mapped f (Some x) = refl

has_table : (side : Side) (history : History) (id : CycleId) → is_some (table_confirmed side history id) ≡ has_confirmed history id
unfolding table_confirmed has_confirmed peer_of
has_table side history id =
    let front = take history.saved history.facts in
    some_mapped (lesser_of (frozen_table side history.facts id)) (slice_get (filter_map (peer_in id) front) 0) ∙ any_met id front

-- a desk confirms what the history that it holds tells
desk_confirms : (side : Side) (station : StationState) (id : CycleId) → confirmed side station.desk id ≡ table_confirmed side (held_by station) id
unfolding confirmed table_confirmed
desk_confirms side station id = refl

-- ---- both histories

-- of each side, the history that it holds in a world
tables_at : (side : Side) (w : WorldState) (id : CycleId) → is_some (table_confirmed side (history_of side (held w)) id) ≡ has_confirmed (history_of side (held w)) id
tables_at I w id = has_table I (held_by w.initiating) id
tables_at M w id = has_table M (held_by w.matching) id

pub confirmed_at : (side : Side) (w : WorldState) (id : CycleId) → confirmed side (station_of side w).desk id ≡ table_confirmed side (history_of side (held w)) id
confirmed_at I w id = desk_confirms I w.initiating id
confirmed_at M w id = desk_confirms M w.matching id

pub lower_at : (w : WorldState) → HaveMetFrozen w → FitsWorld w → (side : Side) (id : CycleId) (table : TableContents) → table_confirmed side (history_of side (held w)) id ≡ Some table
    → IsLowerOfFrozen (held w) id table
lower_at w have fits side id table e =
    let lower = confirms-lower w have fits side id table (confirmed_at side w id ∙ e) in
    record {
      initiating = closed_once I w.initiating.desk.point w.initiating.desk.facts id (have.legal I).legal lower.initiating;
      matching = closed_once M w.matching.desk.point w.matching.desk.facts id (have.legal M).legal lower.matching;
      reads = lower.reads;
    }

matching_at : (w : WorldState) → IsSound w → (id : CycleId) → has_confirmed (held w).initiating id ≡ true → has_confirmed (held w).matching id ≡ true
matching_at w sound id e =
    let (table, is) = some_in (table_confirmed I (held_by w.initiating) id) (has_table I (held_by w.initiating) id ∙ e) in
    sym (has_table M (held_by w.matching) id) ∙ ap is_some (sym (desk_confirms M w.matching id))
    ∙ confirms-at-both w sound id table (desk_confirms I w.initiating id ∙ is)

pub confirms-by-history : (w : WorldState) → IsSound w → FitsWorld w → ConfirmsByHistory (held w)
confirms-by-history w sound fits = record {
  tables = λ side id. tables_at side w id;
  lower = lower_at w (sound-met w sound) fits;
  matching_too = matching_at w sound;
  alike =
      λ id initiating matching ours theirs pair direction hour.
      (lower_at w (sound-met w sound) fits I id initiating ours).reads pair direction hour ∙ sym ((lower_at w (sound-met w sound) fits M id matching theirs).reads pair direction hour);
}

-- What an audit of two desks comes to.
use Rattle.std.specs.Prelude.{◌≡◌, ◌↔◌, ◌⊎◌, List, [], ◌∷◌, find, Bool, true, false, if◌then◌else◌, is_some, Option, Some, None}
use Rattle.std.specs.List.{list_any}
use Rattle.gi_pairs.specs.declared.cycle_id.CycleId.{CycleId}
use Rattle.gi_pairs.specs.declared.side.Side.TheVariants.{I, M}
use Rattle.gi_desk.specs.History.{is_closed}
use Rattle.gi_desk.specs.Machine.{DeskState}
use Rattle.gi_desk.specs.Queries.{confirmed}
use Rattle.gi_audit.specs.Agreeing.{Agree}
use Rattle.gi_audit.specs.Finding.{agrees, differs}
use Rattle.gi_audit.specs.declared.verdict.Verdict.{Verdict}
use Rattle.gi_audit.specs.declared.verdict.Verdict.TheVariants as told

-- the first of these cycles of which a table differs
abbrev pub first_difference : DeskState → DeskState → List CycleId → Option CycleId
first_difference initiating matching ids = find (differs initiating matching) ids

-- one of them is agreed
abbrev pub any_agrees : DeskState → DeskState → List CycleId → Bool
any_agrees initiating matching ids = list_any (agrees initiating matching) ids

-- The first cycle that differs; where none does, that there are no cycles, that one is agreed, or that all are open.
abbrev pub verdict_by : Option CycleId → Bool → List CycleId → Verdict
verdict_by (Some id) agreed ids = told.Differs id
verdict_by None agreed [] = told.Empty
verdict_by None agreed (id ∷ ids) = if agreed then told.Agreed else told.Open

abbrev pub verdict_on : DeskState → DeskState → List CycleId → Verdict
verdict_on initiating matching ids = verdict_by (first_difference initiating matching ids) (any_agrees initiating matching ids) ids

-- the verdict is that a cycle differs; the three others are that none does
abbrev pub names_difference : Verdict → Bool
names_difference (told.Differs id) = true
names_difference told.Agreed = false
names_difference told.Open = false
names_difference told.Empty = false

-- ---- when each is told

-- there is a cycle that both desks have confirmed
pub record ConfirmOneCycle (initiating matching : DeskState) : Type 0 where
  pub id : CycleId
  pub ours : is_some (confirmed I initiating id) ≡ true
  pub theirs : is_some (confirmed M matching id) ≡ true

-- there is a cycle that either desk has closed
pub record CloseOneCycle (initiating matching : DeskState) : Type 0 where
  pub id : CycleId
  pub closed : (is_closed id initiating.facts ≡ true) ⊎ (is_closed id matching.facts ≡ true)

-- `agreed` is told exactly where the desks agree and have both confirmed a cycle; `open` exactly where they agree and have
-- closed one, and there is none that both have confirmed; and `empty` exactly where neither has closed one.
pub record IsToldExactly (initiating matching : DeskState) (verdict : Verdict) : Type 0 where
  pub told_agreed : (verdict ≡ told.Agreed) ↔ (Agree initiating matching × ConfirmOneCycle initiating matching)
  pub told_open : (verdict ≡ told.Open) ↔ (Agree initiating matching × CloseOneCycle initiating matching × ¬ (ConfirmOneCycle initiating matching))
  pub told_empty : (verdict ≡ told.Empty) ↔ ¬ (CloseOneCycle initiating matching)

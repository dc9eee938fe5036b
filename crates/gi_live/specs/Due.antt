-- Which cycles are due at a moment.
use Rattle.std.specs.Prelude.{◌≡◌, ℕ, zero, suc, ℤ, List, [], ◌∷◌, ◌++◌, Bool, not, ◌&&◌, nat_le, int_le, if◌then◌else◌, flat_map}
use Rattle.std.specs.List.{list_any}
use Rattle.jiff_core.specs.declared.civil.date.Date.{Date}
use Rattle.gi_day.specs.Cycles.{cycle_count, cycle_start}
use Rattle.gi_day.specs.SameDay.{same_day}
use Rattle.gi_facts.specs.declared.fact.Fact.{Fact}
use Rattle.gi_moments.specs.Near.{AreNear}
use Rattle.gi_pairs.specs.declared.cycle_id.CycleId.{CycleId}
use Rattle.gi_reports.specs.Cycles.{AreClosedCycles}

-- the cycle of that number or a later one of the day
abbrev pub is_from : Date → ℕ → CycleId → Bool
is_from day cycle id = same_day id.day day && nat_le cycle id.cycle

-- The cycle has started at the moment, and neither it nor a later one of its day is closed.
abbrev pub is_due : List CycleId → ℤ → Date → ℕ → Bool
is_due closed moment day cycle = not (list_any (is_from day cycle) closed) && int_le (cycle_start day cycle) moment

abbrev pub due_at : List CycleId → ℤ → Date → ℕ → List CycleId
due_at closed moment day cycle = if is_due closed moment day cycle then record { day = day; cycle = cycle } ∷ [] else []

-- those among the first so many cycles of a day, in order
abbrev pub due_among : List CycleId → ℤ → Date → ℕ → List CycleId
due_among closed moment day zero = []
due_among closed moment day (suc cycle) = due_among closed moment day cycle ++ due_at closed moment day cycle

-- those of the day
abbrev pub due_of : List CycleId → ℤ → Date → List CycleId
due_of closed moment day = due_among closed moment day (cycle_count day)

-- The cycles that are due: of the gas days from the one before that of the moment to two after it, by day and number.
pub record AreDue (facts : List Fact) (moment : ℤ) (ids : List CycleId) : Type 0 where
  pub closed : List CycleId
  pub are_closed : AreClosedCycles facts closed
  pub days : List Date
  pub are_near : AreNear moment days
  pub ids_are : ids ≡ flat_map (due_of closed moment) days

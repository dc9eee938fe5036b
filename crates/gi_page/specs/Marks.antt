-- The cycles of a gas day, each as far as it is.
use Rattle.std.specs.Prelude.{ℕ, zero, suc, List, [], ◌∷◌, ◌++◌, Option, Some, None, option_map, unsigned_abs}
use Rattle.jiff_core.specs.declared.civil.date.Date.{Date}
use Rattle.gi_day.specs.Cycles.{cycle_start, first_hour}
use Rattle.gi_pairs.specs.Table.{TableContents}
use Rattle.gi_pairs.specs.declared.cycle_id.CycleId.{CycleId}
use Rattle.gi_pairs.specs.declared.side.Side.{Side}
use Rattle.gi_desk.specs.Machine.{DeskState}
use Rattle.gi_desk.specs.Queries.{closing, confirmed, meeting}
use Rattle.gi_schedule.specs.InForce.{cycle_of}
use Rattle.gi_day_tables.specs.declared.cycle_mark.CycleMark.{CycleMark}
use Rattle.gi_day_tables.specs.declared.cycle_mark.Standing.{Standing}
use Rattle.gi_day_tables.specs.declared.cycle_mark.Standing.TheVariants.{NotClosed, Frozen, Unsaved, Confirmed}

-- the number of the fact by which a cycle met the peer's table
abbrev pub met_by : DeskState → CycleId → Option ℕ
met_by s id = option_map (λ meeting. meeting.0) (meeting s.facts id)

-- by the fact that closed it, the fact by which it met the peer's table, and the confirmed table
abbrev pub standing_by : Option ℕ → Option ℕ → Option TableContents → Standing
standing_by None met table = NotClosed
standing_by (Some closed) None table = Frozen
standing_by (Some closed) (Some met) None = Unsaved
standing_by (Some closed) (Some met) (Some table) = Confirmed

abbrev pub standing_at : Side → DeskState → CycleId → Standing
standing_at side s id = standing_by (closing s.facts id) (met_by s id) (confirmed side s id)

abbrev pub mark_of : Side → DeskState → CycleId → CycleMark
mark_of side s id = record {
  cycle = id.cycle;
  start = unsigned_abs (cycle_start id.day id.cycle);
  first = first_hour id.day id.cycle;
  standing = standing_at side s id;
  closed = closing s.facts id;
  met = met_by s id;
}

-- the first so many cycles of a day
abbrev pub marks_of : Side → DeskState → Date → ℕ → List CycleMark
marks_of side s day zero = []
marks_of side s day (suc before) = marks_of side s day before ++ mark_of side s (cycle_of day before) ∷ []

-- What one running office writes of its input, and the faults of that in their order.
use Rattle.std.specs.Prelude.{◌≡◌, ◌⊎◌, ℕ, Bool, true, false, List, None, Option}
use Rattle.std.specs.Io.KnownBytes.{Keeps}
use Rattle.gi_pairs.specs.Code.{IsCode}
use Rattle.gi_pairs.specs.declared.side.Side.{Side}
use Rattle.gi_commands.specs.Fault.{no_code}
use Rattle.gi_desk.specs.Machine.{DeskState, bad_fact}
use Rattle.gi_live.specs.Lines.{lines_left}
use Rattle.gi_live.specs.Stretches.{IsPaused, RunsInPart, RunsWhole}
use Rattle.gi_service.specs.Stations.{IsStationFault}
use Rattle.gi_service.specs.declared.program_fault.ProgramFault.{ProgramFault}
use Rattle.gi_service.specs.declared.program_fault.ProgramFault.TheVariants.{Closed, Command, Live, Refused, Served}

-- the desk with which a run begins: it is of the point, all its facts are saved, it is not halted, and a desk would record them so
pub record Begins (side : Side) (point : List ℕ) (desk : DeskState) : Type 0 where
  pub point_is : desk.point ≡ point
  pub paused : IsPaused desk
  pub legal : bad_fact side desk.point desk.facts ≡ None

-- What is known of the input of an office: of one that goes by the clock, whose lines come among the input's, nothing.
abbrev pub input_of : Bool → Option (List ℕ) → Option (List ℕ)
input_of true remaining = None
input_of false remaining = remaining

-- all lines of the input were taken, from such a desk, and what came of them was written
abbrev pub RunsOffice : Side → List ℕ → Option (List ℕ) → Option (List ℕ) → Option (List ℕ) → Type 0
RunsOffice side point input before after = (desk : DeskState) × Begins side point desk × RunsWhole side desk input before after

-- the point is no code; or the side has no desk
abbrev pub IsFirstOfficeFault : Side → List ℕ → ProgramFault → Type 0
IsFirstOfficeFault side point (Command why) = ((why ≡ no_code) × ¬ (IsCode point)) ⊎ IsStationFault side point why
IsFirstOfficeFault side point (Served why) = ⊥
IsFirstOfficeFault side point (Refused count) = ⊥
IsFirstOfficeFault side point (Live why) = Unit {0}
IsFirstOfficeFault side point (Closed why) = Unit {0}

-- Before the run nothing is written. Of a run that was cut off the output has what was told before; of one whose book was not closed, all.
abbrev pub LeavesOffice : Side → List ℕ → Option (List ℕ) → Option (List ℕ) → Option (List ℕ) → ProgramFault → Type 0
LeavesOffice side point input before after (Command why) = Keeps before after
LeavesOffice side point input before after (Served why) = ⊥
LeavesOffice side point input before after (Refused count) = ⊥
LeavesOffice side point input before after (Live why) = (desk : DeskState) × Begins side point desk × RunsInPart side desk (lines_left None input) before after why
LeavesOffice side point input before after (Closed why) = RunsOffice side point input before after

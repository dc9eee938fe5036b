-- What the program does of all that can be asked of it, and its faults.
use Rattle.std.specs.Prelude.{◌≡◌, ◌<◌, ℕ, List, Option, IfSome, true}
use Rattle.gi_command_line.specs.Asked.{Wanted, at_once, is_strict, office, serve}
use Rattle.gi_pairs.specs.Code.{IsCode}
use Rattle.gi_commands.specs.Commands.{Does, HasNoCode, IsFaultOf, Leaves, MayRead}
use Rattle.gi_commands.specs.Fault.{no_code}
use Rattle.gi_commands.specs.Leaving.{LeavesNothing}
use Rattle.gi_store.specs.Source.{Source}
use Rattle.gi_service.specs.Living.{IsFirstOfficeFault, LeavesOffice, RunsOffice, input_of}
use Rattle.gi_refusals.specs.Refusals.{refused_told}
use Rattle.gi_service.specs.Serving.{IsFirstServeFault, LeavesServed, MayBeTold, Serves}
use Rattle.gi_service.specs.declared.program_fault.ProgramFault.{ProgramFault}
use Rattle.gi_service.specs.declared.program_fault.ProgramFault.TheVariants.{Command, Refused}

-- `from` says what may come of reading a book, by its file's name; `serve` and `office` open their books by themselves.

-- what is asked for is what the output gains; of what the reader has left, where it tells that
abbrev pub DoesTask : Source → Wanted → Option (List ℕ) → Option (List ℕ) → Option (List ℕ) → Type 0
DoesTask from (at_once asked) remaining old new = Does from asked remaining old new
DoesTask from (serve service) remaining old new = IfSome remaining (λ input. Serves service.sessions input old new)
DoesTask from (office run) remaining old new = RunsOffice run.side run.point (input_of run.by_clock remaining) old new

-- the first fault
abbrev pub IsTaskFault : Source → Wanted → Option (List ℕ) → ProgramFault → Type 0
IsTaskFault from (at_once asked) remaining (Command why) = IsFaultOf from asked remaining why
IsTaskFault from (at_once asked) remaining _ = ⊥
IsTaskFault from (serve service) remaining why = MayBeTold service.dry_run why × IfSome remaining (λ input. IsFirstServeFault service.sessions input why)
IsTaskFault from (office run) remaining why = IsFirstOfficeFault run.side run.point why

-- what stands on the output after it
abbrev pub LeavesTask : Source → Wanted → Option (List ℕ) → Option (List ℕ) → Option (List ℕ) → ProgramFault → Type 0
LeavesTask from (at_once asked) remaining old new (Command why) = Leaves from asked remaining old new why
LeavesTask from (at_once asked) remaining old new _ = ⊥
LeavesTask from (serve service) remaining old new why = LeavesServed service.sessions remaining old new why
LeavesTask from (office run) remaining old new why = LeavesOffice run.side run.point (input_of run.by_clock remaining) old new why

-- after a fault of a command nothing is written, but where a writer failed
abbrev pub LeavesNothingBut : Option (List ℕ) → Option (List ℕ) → ProgramFault → Type 0
LeavesNothingBut old new (Command why) = LeavesNothing old new why
LeavesNothingBut old new _ = ⊥

-- which commands read the input
abbrev pub MayReadTask : Wanted → Option (List ℕ) → Option (List ℕ) → Type 0
MayReadTask (at_once asked) old new = MayRead asked old new
MayReadTask (serve service) old new = Unit {0}
MayReadTask (office run) old new = Unit {0}

-- a point is no code, of a report of a book, of an audit or of an office, or a portfolio that `explain` names
abbrev pub NamesNoCode : Wanted → Type 0
NamesNoCode (at_once asked) = HasNoCode asked
NamesNoCode (serve service) = ⊥
NamesNoCode (office run) = ¬ (IsCode run.point)

abbrev pub no_task_code : ProgramFault
no_task_code = Command no_code

-- ---- what is asked strictly

-- so many of the lines that the output holds tell a refusal, where it is known what it holds
abbrev pub HoldsRefused : Option (List ℕ) → ℕ → Type 0
HoldsRefused held count = IfSome held (λ bytes. count ≡ refused_told bytes)

-- what is asked strictly and was done fails where one does
abbrev pub IsStrictFault : Wanted → Option (List ℕ) → ProgramFault → Type 0
IsStrictFault wanted held (Refused count) = (is_strict wanted ≡ true) × (0 < count) × HoldsRefused held count
IsStrictFault wanted held _ = ⊥

-- the first fault: it comes behind all others
abbrev pub IsEndFault : Source → Wanted → Option (List ℕ) → Option (List ℕ) → ProgramFault → Type 0
IsEndFault from wanted remaining held (Refused count) = IsStrictFault wanted held (Refused count)
IsEndFault from wanted remaining held why = IsTaskFault from wanted remaining why

-- what stands on the output after it: all that is asked for, where a step was refused
abbrev pub LeavesEnd : Source → Wanted → Option (List ℕ) → Option (List ℕ) → Option (List ℕ) → ProgramFault → Type 0
LeavesEnd from wanted remaining old new (Refused count) = DoesTask from wanted remaining old new
LeavesEnd from wanted remaining old new why = LeavesTask from wanted remaining old new why

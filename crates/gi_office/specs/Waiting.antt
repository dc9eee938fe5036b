-- What becomes of the fact of a receipt.
use Rattle.std.specs.Prelude.{◌≡◌, ℕ, Option, None, Some, if◌then◌else◌}
use Rattle.gi_pairs.specs.declared.side.Side.{Side}
use Rattle.gi_desk.specs.Machine.{DeskState}
use Rattle.gi_desk.specs.Queries.{acknowledged}
use Rattle.gi_desk.specs.declared.reply.Answer.{Answer}
use Rattle.gi_desk.specs.declared.reply.Answer.TheVariants as answers
use Rattle.gi_office.specs.Keeping.{HeldState, HeldInvariant}
use Rattle.gi_office.specs.declared.waited.Waited.{Waited}
use Rattle.gi_office.specs.declared.waited.Waited.TheVariants.{Saved, Stopped}

-- the number of the fact that an answer is of
abbrev pub number_in : Answer → Option ℕ
number_in (answers.Recorded n) = Some n
number_in (answers.Repeat n) = Some n
number_in (answers.Saved n) = None
number_in (answers.Kept have parts) = None
number_in answers.Resent = None
number_in answers.Stopped = None
number_in (answers.Refused refusal) = None

-- it is saved, or it is not and the desk is halted; nothing while it may still be saved
abbrev pub waited_for : DeskState → ℕ → Option Waited
waited_for s n = if acknowledged s n then Some Saved else (if s.halted then Some Stopped else None)

-- What a lock gave is not told, but that it was an office like any other, in which that had become of the fact of this number.
abbrev pub IsWaited : Side → ℕ → Waited → Type 0
IsWaited side n result = (held : HeldState) × HeldInvariant side held × (waited_for held.desk n ≡ Some result)

-- A refusal prints as its name, and then the version in force where it has one.
use Rattle.std.specs.Prelude.{ℕ, List, ◌++◌, codes}
use Rattle.std.specs.Fmt.{decimal}
use Rattle.gi_nominations.specs.declared.nomination_fault.NominationFault.{NominationFault}
use Rattle.gi_nominations.specs.declared.nomination_fault.NominationFault.TheVariants.{WrongPoint, UnknownPortfolio, HourCount, TooManyLines, DuplicateLine, DayOver, Stale, Conflict}

abbrev pub fault_text : NominationFault → List ℕ
fault_text WrongPoint = codes "WrongPoint"
fault_text UnknownPortfolio = codes "UnknownPortfolio"
fault_text HourCount = codes "HourCount"
fault_text TooManyLines = codes "TooManyLines"
fault_text DuplicateLine = codes "DuplicateLine"
fault_text DayOver = codes "DayOver"
fault_text (Stale held) = codes "Stale " ++ decimal held
fault_text (Conflict held) = codes "Conflict " ++ decimal held

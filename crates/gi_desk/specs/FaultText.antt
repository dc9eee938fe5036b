-- A refusal prints as its name.
use Rattle.std.specs.Prelude.{ℕ, List, ◌++◌, codes}
use Rattle.std.specs.Fmt.{decimal}
use Rattle.gi_day.specs.CalendarText.{fault_text as calendar_text}
use Rattle.gi_messages.specs.Fault.{fault_text as message_text}
use Rattle.gi_nominations.specs.FaultText.{fault_text as nomination_text}
use Rattle.gi_desk.specs.declared.refusal.Refusal.{Refusal}
use Rattle.gi_desk.specs.declared.refusal.Refusal.TheVariants.{Halted, TooManyPortfolios, Calendar, NoticeRange, PermilleRange, Message, WrongKind, Nomination, NoSuchCycle, AlreadyClosed, OutOfOrder, WrongPoint, NotClosed, ShapeDiffers, PartDiffers, PartsOverlap, TooManyRows, NotTheLesser, Conflict, NotNext, OtherFact, Full}
use Rattle.gi_desk.specs.declared.refusal.Refusal.TheVariants as refusals
use Rattle.gi_desk.specs.declared.replay_fault.ReplayFault.{ReplayFault}
use Rattle.gi_desk.specs.declared.replay_fault.ReplayFault.TheVariants.{BadFact, OutOfMemory}

abbrev pub replay_fault_text : ReplayFault → List ℕ
replay_fault_text (BadFact n) = codes "BadFact " ++ decimal n
replay_fault_text OutOfMemory = codes "OutOfMemory"

-- why a desk refuses: the name, and then each value after one space; a refusal of a nomination prints as that one alone
abbrev pub refusal_text : Refusal → List ℕ
refusal_text Halted = codes "Halted"
refusal_text TooManyPortfolios = codes "TooManyPortfolios"
refusal_text (Calendar fault) = codes "Calendar " ++ calendar_text fault
refusal_text NoticeRange = codes "NoticeRange"
refusal_text PermilleRange = codes "PermilleRange"
refusal_text (Message fault) = codes "Message " ++ message_text fault
refusal_text WrongKind = codes "WrongKind"
refusal_text (Nomination fault) = nomination_text fault
refusal_text NoSuchCycle = codes "NoSuchCycle"
refusal_text AlreadyClosed = codes "AlreadyClosed"
refusal_text (OutOfOrder last) = codes "OutOfOrder " ++ decimal last
refusal_text WrongPoint = codes "WrongPoint"
refusal_text NotClosed = codes "NotClosed"
refusal_text ShapeDiffers = codes "ShapeDiffers"
refusal_text (PartDiffers part) = codes "PartDiffers " ++ decimal part
refusal_text PartsOverlap = codes "PartsOverlap"
refusal_text TooManyRows = codes "TooManyRows"
refusal_text (NotTheLesser row) = codes "NotTheLesser " ++ decimal row
refusal_text Conflict = codes "Conflict"
refusal_text (NotNext expected) = codes "NotNext " ++ decimal expected
refusal_text OtherFact = codes "OtherFact"
refusal_text Full = codes "Full"
refusal_text refusals.OutOfMemory = codes "OutOfMemory"

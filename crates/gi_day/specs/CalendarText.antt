-- How the refusals of a calendar print: as their names.
use Rattle.std.specs.Prelude.{List, ℕ, codes}
use Rattle.gi_day.specs.declared.calendar.CalendarFault.{CalendarFault}
use Rattle.gi_day.specs.declared.calendar.CalendarFault.TheVariants.{ZoneRefused, DayLength, OutOfMemory}

abbrev pub fault_text : CalendarFault → List ℕ
fault_text ZoneRefused = codes "ZoneRefused"
fault_text DayLength = codes "DayLength"
fault_text OutOfMemory = codes "OutOfMemory"

-- When two dates are one day: their day numbers are.
use Rattle.std.specs.Prelude.{Bool}
use Rattle.std.specs.Ordering.{int_eq}
use Rattle.jiff_core.specs.Date.{epoch_day}
use Rattle.jiff_core.specs.declared.civil.date.Date.{Date}

abbrev pub same_day : Date → Date → Bool
same_day a b = int_eq (epoch_day a) (epoch_day b)

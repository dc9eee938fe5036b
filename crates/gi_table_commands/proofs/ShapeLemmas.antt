-- When two tables have one shape, by the tests that compare them.
use Rattle.std.proofs.Common.{◌≡◌, Bool, true, int_eq, ◌==◌}
use Rattle.std.specs.Prelude.{IsTrue, ◌↔◌}
use Rattle.std.specs.Str.{bytes_eq}
use Rattle.std.proofs.lemmas.Bool.Decides.{Decides-eqb}
use Rattle.std.proofs.lemmas.Slice.Eq.{bytes_eq-Decides}
use Rattle.jiff_core.specs.Date.{epoch_day}
use Rattle.gi_day.proofs.DayLaws.{same_day-Decides}
use Rattle.gi_messages.specs.declared.message.Delord.{Delord}
use Rattle.gi_lesser.specs.Lesser.{HasShapeOf}
use Rattle.gi_table_commands.specs.Match.{SameShape}

-- with the other tests passed, the test of the hours decides
pub SameShape-hours : (order own : Delord) (hours : Bool) → bytes_eq order.point own.point ≡ true
    → int_eq (epoch_day order.day) (epoch_day own.day) ≡ true → (order.cycle == own.cycle) ≡ true
    → (IsTrue hours ↔ HasShapeOf own.processed order.processed) → (IsTrue hours ↔ SameShape order own)
SameShape-hours order own hours point day cycle same = (
  λ passed. record {
    point = (bytes_eq-Decides order.point own.point).0 point;
    day = (same_day-Decides order.day own.day).0 day;
    cycle = (Decides-eqb order.cycle own.cycle).0 cycle;
    hours = same.0 passed;
  },
  λ shape. same.1 shape.hours,
)

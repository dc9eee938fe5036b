use Rattle.std.proofs.Common.{◌≡◌, ◌-◌, map, Vec, ℕ, Global}
use Rattle.std.specs.List.{range_with_len}
use Rattle.gi_processing.specs.Processing.{available_to}
use Rattle.gi_processing.specs.Reduction.{parts, referred, total}
use Rattle.gi_processing.proofs.processing.columns_of.Given as goal

abbrev pub invariant-loop-hour : goal.invariant-loop-hour
invariant-loop-hour l =
    map (λ (column : Vec ℕ Global). column.items) l.of_hours.items
    ≡ map (λ hour. parts (available_to l.contracts l.portfolio l.span.day l.direction hour - total (hour - 1) (referred l.before)) (hour - 1) (referred l.lines)) (range_with_len l.span.first (l.hour - l.span.first))

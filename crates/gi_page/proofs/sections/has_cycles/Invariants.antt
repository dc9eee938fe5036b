use Rattle.std.proofs.Common.{◌≡◌, take}
use Rattle.std.specs.List.{list_any}
use Rattle.gi_page.specs.Sections.{has_cycle}
use Rattle.gi_page.proofs.sections.has_cycles.Given as goal

abbrev pub invariant-loop-hour : goal.invariant-loop-hour
invariant-loop-hour l = l.has ≡ list_any has_cycle (take l.hour-index l.hours)

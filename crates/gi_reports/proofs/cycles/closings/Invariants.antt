use Rattle.std.proofs.Common.{◌≡◌, take}
use Rattle.gi_desk.specs.History.{closings as closings_of}
use Rattle.gi_reports.proofs.cycles.closings.Given as goal

abbrev pub invariant-loop-before : goal.invariant-loop-before
invariant-loop-before g l = l.ids.items ≡ closings_of (take l.before l.desk.facts)

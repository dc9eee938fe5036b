use Rattle.std.proofs.Common.{◌≡◌, take}
use Rattle.gi_day_tables.specs.Bars.{highest}
use Rattle.gi_day_tables.proofs.bars.highest.Given as goal

abbrev pub invariant-loop-value : goal.invariant-loop-value
invariant-loop-value l = l.most ≡ highest (take l.value-index l.values)

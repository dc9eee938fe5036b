use Rattle.std.proofs.Common.{◌≡◌, take}
use Rattle.gi_schedule.specs.Cuts.{cuts}
use Rattle.gi_schedule.proofs.cuts.cut_lines.Given as goal

abbrev pub invariant-loop-id : goal.invariant-loop-id
invariant-loop-id g l = l.lines.items ≡ cuts g.R.Role.SIDE l.desk l.wanted (take l.id-index l.id-items)

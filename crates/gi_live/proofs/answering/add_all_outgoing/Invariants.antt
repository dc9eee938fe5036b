use Rattle.std.proofs.Common.{◌≡◌, ◌++◌}
use Rattle.gi_live.specs.Answering.{outgoing_of}
use Rattle.gi_live.proofs.answering.add_all_outgoing.Given as goal

abbrev pub invariant-loop-before : goal.invariant-loop-before
invariant-loop-before g l = l.text.items ≡ l.initial.text.items ++ outgoing_of g.R.Role.SIDE l.desk l.from l.before

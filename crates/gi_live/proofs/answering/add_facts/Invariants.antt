use Rattle.std.proofs.Common.{◌≡◌, ◌++◌}
use Rattle.gi_live.specs.Answering.{fact_lines}
use Rattle.gi_live.proofs.answering.add_facts.Given as goal

abbrev pub invariant-loop-before : goal.invariant-loop-before
invariant-loop-before g l = l.text.items ≡ l.initial.text.items ++ fact_lines l.desk.facts l.before

use Rattle.gi_simulation.proofs.Indented.{plain_step, trace_follows, trace_indented}
use Rattle.gi_simulation.proofs.laws.a_trace_follows_its_step.Goals as goal

pub returns-clause-plain : goal.returns-clause-plain
returns-clause-plain c = plain_step

pub returns-clause-follows : goal.returns-clause-follows
returns-clause-follows c = trace_follows

pub returns-clause-indented : goal.returns-clause-indented
returns-clause-indented c = trace_indented

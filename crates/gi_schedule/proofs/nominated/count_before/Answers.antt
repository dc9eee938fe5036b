use Rattle.std.proofs.Common.{arith}
use Rattle.gi_schedule.proofs.NominatedLemmas.{all_before, before_closing, closing_number, closing_within}
use Rattle.gi_schedule.proofs.nominated.count_before.Goals as goal

pub overflow_sub-result : goal.overflow_sub-result
overflow_sub-result g c = omega (arith, closing_number c.args.desk.now.facts c.args.id c.in-Some.number c.in-Some.ensures)

pub returns-in-Some-clause-value : goal.returns-in-Some-clause-value
returns-in-Some-clause-value g c = before_closing c.args.desk.now.facts c.args.id c.in-Some.number c.in-Some.ensures

pub returns-in-Some-clause-within : goal.returns-in-Some-clause-within
returns-in-Some-clause-within g c = closing_within c.args.desk.now.facts c.args.id c.in-Some.number c.in-Some.ensures

pub returns-in-None-clause-value : goal.returns-in-None-clause-value
returns-in-None-clause-value g c = all_before c.args.desk.now.facts c.args.id c.len.result c.in-None.ensures c.len.ensures

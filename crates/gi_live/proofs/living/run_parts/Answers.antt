use Rattle.std.proofs.Common.{arith}
use Rattle.gi_live.specs.Stretches.{pause}
use Rattle.gi_live.proofs.Goings.{goes_both, goes_some, not_ended, too_many, whole_run}
use Rattle.gi_live.proofs.living.run_parts.Goals as goal

pub returns-in-Err-clause-part : goal.returns-in-Err-clause-part
returns-in-Err-clause-part g c =
    goes_some g.R.Role.SIDE (pause c.args.desk 0) _ _ _ _ _ (pause c.loop.desk c.loop.taken) c.in-Err.fault c.loop.invariant.goes c.in-Err.ensures.some

pub returns-then-is_over-clause-whole : goal.returns-then-is_over-clause-whole
returns-then-is_over-clause-whole g c =
    whole_run g.R.Role.SIDE c.args.desk _ _ _ _ _ _ _ (pause c.loop.desk c.loop.taken) (pause c.in-Ok.part.0 c.in-Ok.part.1) c.tell_end-end.result
    c.loop.invariant.goes c.in-Ok.ensures.goes (c.in-Ok.ensures.end c.if-is_over.true) c.tell_end-end.ensures.written

pub returns-then-is_over-clause-part : goal.returns-then-is_over-clause-part
returns-then-is_over-clause-part g c =
    not_ended g.R.Role.SIDE (pause c.args.desk 0) _ _ _ _ _ (pause c.in-Ok.part.0 c.in-Ok.part.1) c.tell_end-end.result
    (goes_both g.R.Role.SIDE (pause c.args.desk 0) _ _ _ _ _ _ (pause c.loop.desk c.loop.taken) (pause c.in-Ok.part.0 c.in-Ok.part.1) c.loop.invariant.goes c.in-Ok.ensures.goes)
    c.tell_end-end.ensures.leaves

pub loop-preserved : goal.loop-preserved
loop-preserved g c = record {
  paused = c.in-Ok.ensures.paused c.if-is_over.false;
  few = omega (arith, c.loop.invariant.few, c.in-Ok.ensures.few);
  goes = goes_both g.R.Role.SIDE (pause c.args.desk 0) _ _ _ _ _ _ (pause c.loop.desk c.loop.taken) (pause c.in-Ok.part.0 c.in-Ok.part.1) c.loop.invariant.goes c.in-Ok.ensures.goes;
}

pub returns-clause-part : goal.returns-clause-part
returns-clause-part g c = too_many g.R.Role.SIDE (pause c.args.desk 0) _ _ _ _ (pause c.loop.desk c.loop.taken) c.loop.invariant.goes

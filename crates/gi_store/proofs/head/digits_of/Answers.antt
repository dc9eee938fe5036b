use Rattle.std.proofs.Common.{arith, rules}
use Rattle.gi_store.proofs.Heads.{none_left, one_more}
use Rattle.gi_store.proofs.head.digits_of.Goals as goal

pub loop-place-preserved : goal.loop-place-preserved
loop-place-preserved c = record {
  full = search rules;
  written = one_more _ _ _ _ (omega arith) (omega arith) c.loop-place.invariant.written;
}

pub returns : goal.returns
returns c = none_left _ _ _ _ c.loop-place-test.false c.loop-place.invariant.written

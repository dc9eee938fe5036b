use Rattle.std.specs.Prelude.{IsTrue}
use Rattle.gi_office.proofs.Sames.{cycles}
use Rattle.gi_office.proofs.comparing.is_same_cycle.Goals as goal

pub returns : goal.returns
returns c = cycles (IsTrue c.are_equal.result) c.args.id.now c.args.other.now c.are_equal.ensures

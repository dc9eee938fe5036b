use Rattle.std.specs.Prelude.{IsTrue}
use Rattle.gi_office.proofs.Sames.{contracts}
use Rattle.gi_office.proofs.comparing.is_same_contract.Goals as goal

pub returns : goal.returns
returns c = contracts (IsTrue c.are_equal.result) c.args.contract.now c.args.other.now c.are_equal.ensures

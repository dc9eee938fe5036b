use Rattle.std.specs.Prelude.{IsTrue}
use Rattle.gi_office.proofs.Sames.{closings}
use Rattle.gi_office.proofs.comparing.is_same_closing.Goals as goal

pub returns : goal.returns
returns c = closings (IsTrue c.are_equal.result) c.args.id.now c.args.other.now c.args.rule c.args.by c.are_equal.ensures

use Rattle.std.specs.Prelude.{IsTrue}
use Rattle.gi_office.proofs.Sames.{notices}
use Rattle.gi_office.proofs.comparing.is_same_notice.Goals as goal

pub returns : goal.returns
returns c = notices (IsTrue c.are_equal.result) c.args.notice.now c.args.other.now c.are_equal.ensures

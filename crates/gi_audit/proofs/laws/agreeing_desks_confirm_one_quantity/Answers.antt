use Rattle.gi_audit.proofs.AgreeLaws.{agreeing-confirm}
use Rattle.gi_audit.proofs.laws.agreeing_desks_confirm_one_quantity.Goals as goal

pub returns : goal.returns
returns c = agreeing-confirm

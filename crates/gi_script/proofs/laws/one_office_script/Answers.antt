use Rattle.gi_script.proofs.OneScript.{office-script-one}
use Rattle.gi_script.proofs.laws.one_office_script.Goals as goal

pub returns : goal.returns
returns c = office-script-one

use Rattle.gi_script.proofs.OneScript.{script-one}
use Rattle.gi_script.proofs.laws.one_script.Goals as goal

pub returns : goal.returns
returns c = script-one

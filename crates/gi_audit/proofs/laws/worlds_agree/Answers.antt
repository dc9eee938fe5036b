use Rattle.gi_audit.proofs.AgreeLaws.{worlds-agree}
use Rattle.gi_audit.proofs.laws.worlds_agree.Goals as goal

pub returns : goal.returns
returns c = worlds-agree

use Rattle.gi_script.proofs.OneRequest.{request-one}
use Rattle.gi_script.proofs.laws.one_request.Goals as goal

pub returns : goal.returns
returns c = request-one

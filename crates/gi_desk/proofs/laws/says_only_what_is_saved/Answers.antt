use Rattle.gi_desk.proofs.StepFacts.{says-only-what-is-saved}
use Rattle.gi_desk.proofs.laws.says_only_what_is_saved.Goals as goal

pub returns : goal.returns
returns c = says-only-what-is-saved

use Rattle.gi_commands.proofs.TableFaults.{same_status}
use Rattle.gi_commands.proofs.laws.one_status.Goals as goal

pub returns : goal.returns
returns c = same_status

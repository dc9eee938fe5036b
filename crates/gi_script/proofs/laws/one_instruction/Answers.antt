use Rattle.gi_script.proofs.OneInstruction.{instruction-one}
use Rattle.gi_script.proofs.laws.one_instruction.Goals as goal

pub returns : goal.returns
returns c = instruction-one

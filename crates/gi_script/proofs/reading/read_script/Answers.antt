use Rattle.gi_script.specs.Grammar.{Spells}
use Rattle.gi_script.proofs.OneInstruction.{instruction-one}
use Rattle.gi_script.proofs.OneScript.{only-from}
use Rattle.gi_script.proofs.reading.read_script.Goals as goal

pub returns-clause-only : goal.returns-clause-only
returns-clause-only c = only-from Spells instruction-one c.args.bytes.now c.read.result c.read.ensures.found c.read.ensures.fault

use Rattle.gi_script.specs.Script.{SpellsForOffice}
use Rattle.gi_script.proofs.OneScript.{office-one, only-from}
use Rattle.gi_script.proofs.reading.read_office_script.Goals as goal

pub returns-clause-only : goal.returns-clause-only
returns-clause-only c = only-from SpellsForOffice office-one c.args.bytes.now c.read.result c.read.ensures.found c.read.ensures.fault

use Rattle.gi_desk.proofs.PartsOfTables.{sends-whole_tables}
use Rattle.gi_desk.proofs.laws.sends_whole_tables.Goals as goal

pub returns : goal.returns
returns c = sends-whole_tables

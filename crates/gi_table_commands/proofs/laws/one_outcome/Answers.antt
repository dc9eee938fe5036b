use Rattle.gi_table_commands.proofs.Outcomes.{one_answer, no_answer, one_fault}
use Rattle.gi_table_commands.proofs.laws.one_outcome.Goals as goal

pub returns : goal.returns
returns c =
    let reads = c.reads_spelling.ensures in
    record { answer = one_answer reads; refused = no_answer reads; fault = one_fault reads }

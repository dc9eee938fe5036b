use Rattle.gi_messages.proofs.MessageLemmas.{decoded_takes, decoded_again}
use Rattle.gi_messages.proofs.laws.reads_spelling.Goals as goal

pub returns : goal.returns
returns c = λ bytes m. (decoded_takes bytes m, decoded_again bytes m)

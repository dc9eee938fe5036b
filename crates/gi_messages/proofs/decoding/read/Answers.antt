use Rattle.gi_messages.proofs.MessageLemmas.{not_read}
use Rattle.gi_messages.proofs.decoding.read.Goals as goal

pub returns-in-Some-clause-not_text : goal.returns-in-Some-clause-not_text
returns-in-Some-clause-not_text c = λ short never. absurd (not_read c.args.bytes.now c.in-Some.message short never c.in-Some.ensures)

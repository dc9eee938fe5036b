use Rattle.std.proofs.Common.{subst}
use Rattle.gi_messages.specs.Decoding.{Gives}
use Rattle.gi_messages.proofs.MessageLemmas.{decoded_again, is_found}
use Rattle.gi_messages.proofs.decoding.decode.Goals as goal

pub returns-clause-found : goal.returns-clause-found
returns-clause-found c = is_found c.args.bytes.now c.read.result c.read.ensures.exact

pub returns-clause-only : goal.returns-clause-only
returns-clause-only c = λ m h. subst (λ r. Gives c.read.result r) (decoded_again c.args.bytes.now m h) c.read.ensures.exact

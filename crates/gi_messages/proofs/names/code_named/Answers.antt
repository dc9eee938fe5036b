use Rattle.std.proofs.Common.{◌∙◌}
use Rattle.gi_messages.proofs.NameLemmas.{code_of-read}
use Rattle.gi_messages.proofs.names.code_named.Goals as goal

pub returns : goal.returns
returns c = c.ok.ensures.value ∙ code_of-read c.args.text.now c.read.result c.read.ensures

use Rattle.gi_messages.proofs.ShortTexts.{texts_are_short}
use Rattle.gi_messages.proofs.laws.texts_are_short.Goals as goal

pub returns : goal.returns
returns c = texts_are_short

use Rattle.std.proofs.Common.{length}
use Rattle.gi_refusals.proofs.telling.+behind_word.Given as goal

abbrev pub decreases-behind_word : goal.decreases-behind_word
decreases-behind_word l = length l.text.now

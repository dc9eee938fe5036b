use Rattle.std.proofs.Common.{◌≡◌, ◌++◌, ◌≤◌, map, length}
use Rattle.gi_carrier.specs.Limits.{most_moves}
use Rattle.gi_carrier.specs.Moves.{move_text}
use Rattle.gi_script.proofs.plan.plan.Given as goal

-- the moves read so far are the first words
abbrev pub invariant-loop-word : goal.invariant-loop-word
invariant-loop-word l = record {
  same : l.initial.words ≡ map move_text l.moves.items ++ l.words;
  few : length l.moves.items ≤ most_moves;
}

abbrev pub decreases-loop-word : goal.decreases-loop-word
decreases-loop-word l = length l.words

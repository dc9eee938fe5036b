use Rattle.std.proofs.Common.{◌≡◌, ◌≤◌, ◌+◌, ◌++◌, drop}
use Rattle.gi_live.specs.Telling.{cames_text}
use Rattle.gi_live.proofs.telling.add_cames.Given as goal

abbrev pub invariant-loop-came : goal.invariant-loop-came
invariant-loop-came l = record {
  number : l.number ≤ l.line + l.came-index;
  text : l.text.items ++ cames_text l.saved l.number (drop l.came-index l.cames) ≡ l.initial.text.items ++ cames_text l.saved l.line l.cames;
}

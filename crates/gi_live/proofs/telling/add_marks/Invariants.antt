use Rattle.std.proofs.Common.{◌≡◌, ◌++◌, flat_map, take}
use Rattle.gi_live.specs.Telling.{mark_text}
use Rattle.gi_live.proofs.telling.add_marks.Given as goal

abbrev pub invariant-loop-mark : goal.invariant-loop-mark
invariant-loop-mark l = l.text.items ≡ l.initial.text.items ++ flat_map mark_text (take l.mark-index l.marks)

use Rattle.std.proofs.Common.{◌≡◌, string_bytes, take}
use Rattle.gi_page.specs.Waiting.{waits}
use Rattle.gi_page.proofs.waiting.waits.Given as goal

abbrev pub invariant-loop-mark : goal.invariant-loop-mark
invariant-loop-mark l = string_bytes l.text ≡ waits l.hours (take l.mark-index l.marks)

use Rattle.std.proofs.Common.{◌≡◌, string_bytes, take}
use Rattle.gi_page.specs.Header.{reigns}
use Rattle.gi_page.proofs.header.reigns.Given as goal

abbrev pub invariant-loop-run : goal.invariant-loop-run
invariant-loop-run l = string_bytes l.text ≡ reigns l.count (take l.run-index l.runs)

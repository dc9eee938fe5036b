use Rattle.std.proofs.Common.{◌≡◌, ◌++◌, map, take}
use Rattle.gi_live.specs.Answering.{comma_for}
use Rattle.gi_live.proofs.answering.add_commas.Given as goal

abbrev pub invariant-loop-byte : goal.invariant-loop-byte
invariant-loop-byte l = l.text.items ≡ l.initial.text.items ++ map comma_for (take l.byte-index l.rows)

use Rattle.std.proofs.Common.{◌≡◌, drop}
use Rattle.std.specs.List.{fold}
use Rattle.gi_refusals.specs.Refusals.{next}
use Rattle.gi_refusals.proofs.lines.Lines.add_all.Given as goal

abbrev pub invariant-loop-byte : goal.invariant-loop-byte
invariant-loop-byte l = fold next l.self (drop l.byte-index l.bytes) ≡ fold next l.initial.self l.bytes

use Rattle.std.proofs.Common.{take}
use Rattle.gi_store.specs.Facts.{AreFactsFrom}
use Rattle.gi_store.proofs.reading.read_facts.Given as goal

abbrev pub invariant-loop-row : goal.invariant-loop-row
invariant-loop-row l = AreFactsFrom 1 (take l.row-index l.rows) l.facts.items

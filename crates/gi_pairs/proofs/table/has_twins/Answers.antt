use Rattle.std.proofs.Common.{◌-◌, ◌∙◌, sym, arith}
use Rattle.std.proofs.lemmas.Map.Keys.{IsDistinct-from_sorted}
use Rattle.gi_pairs.specs.Key.{key_cmp}
use Rattle.gi_pairs.specs.Table.{keys_of}
use Rattle.gi_pairs.proofs.Building.{repeats_from_distinct}
use Rattle.gi_pairs.proofs.Refusals.{strict_from_neighbours, twins_read}
use Rattle.gi_pairs.proofs.table.has_twins.Goals as goal

pub returns-then-eq-clause-twins : goal.returns-then-eq-clause-twins
returns-then-eq-clause-twins c =
    sym (twins_read c.args.rows.now (c.loop-i.i - 1) c.loop-i.i c.index-rows-i.result c.index-rows-i-in-loop-i.result c.key.result c.key-in-loop-i.result c.cmp.result
    (omega arith) c.loop-i-test.true c.index-rows-i.is c.index-rows-i-in-loop-i.is c.key.ensures c.key-in-loop-i.ensures c.cmp.ensures (sym c.eq.ensures ∙ c.if-eq.true))

pub returns-clause-ordered : goal.returns-clause-ordered
returns-clause-ordered c = strict_from_neighbours c.args.rows.now c.requires (λ k d below. c.loop-i.invariant k d (omega arith))

pub returns-clause-twins : goal.returns-clause-twins
returns-clause-twins c = sym (repeats_from_distinct (keys_of c.args.rows.now) (IsDistinct-from_sorted key_cmp (keys_of c.args.rows.now) (returns-clause-ordered c)))

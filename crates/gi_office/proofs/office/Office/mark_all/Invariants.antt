use Rattle.std.proofs.Common.{◌≡◌, length}
use Rattle.std.specs.Vec.Iter.{into_iter_items, into_iter_len}
use Rattle.gi_office.proofs.MarkingAll.{AreMarkedBefore}
use Rattle.gi_office.proofs.office.Office.mark_all.Given as goal

-- the first facts are marked, in order
abbrev pub invariant-loop-fact : goal.invariant-loop-fact
invariant-loop-fact g l = record {
  marks : AreMarkedBefore g.R.Role.SIDE l.fn.n l.fn.facts.items (into_iter_items l.fact-iterator) l.initial.seat l.turn l.seat l.marked;
  left : into_iter_len l.fact-iterator ≡ length (into_iter_items l.fact-iterator);
}

use Rattle.std.proofs.Common.{◌≡◌, ◌≤◌, ◌+◌, ◌++◌, List, length, vec_capacity}
use Rattle.std.specs.Vec.Iter.{into_iter_items, into_iter_len}
use Rattle.gi_office.specs.Keeping.{SeatState}
use Rattle.gi_office.specs.Serving.{AreLetGo, AreSubmitted}
use Rattle.gi_office.specs.declared.receipt.Receipt.{Receipt}
use Rattle.gi_office.proofs.office.Office.submit_all.Given as goal

-- what is submitted from here on comes after what was
abbrev pub invariant-loop-body : goal.invariant-loop-body
invariant-loop-body g l = record {
  submitted :
      (more : List Receipt) (end : SeatState) → AreSubmitted g.R.Role.SIDE l.seat (into_iter_items l.body-iterator) more end
      → AreSubmitted g.R.Role.SIDE l.initial.seat l.fn.bodies.items (l.receipts.items ++ more) end;
  let_go : AreLetGo (g.G.Gate.may_go l.gate l.number) (length l.receipts.items);
  counted : length l.receipts.items + length (into_iter_items l.body-iterator) ≡ length l.fn.bodies.items;
  left : into_iter_len l.body-iterator ≡ length (into_iter_items l.body-iterator);
  room : length l.fn.bodies.items ≤ vec_capacity l.receipts;
}

use Rattle.std.proofs.Common.{◌≡◌, length, map, take}
use Rattle.gi_serving.specs.Submitting.{in_order}
use Rattle.gi_serving.proofs.Dealing.{AllTold}
use Rattle.gi_serving.proofs.batch.words_of.Given as goal

abbrev pub invariant-loop-number : goal.invariant-loop-number
invariant-loop-number l = record {
  count : length l.words.items ≡ l.number-index;
  lists : length l.receipts.items ≡ length l.fn.receipts.items;
  told : AllTold (take l.number-index l.numbers) (map in_order l.fn.receipts.items) (map in_order l.receipts.items) l.words.items;
}

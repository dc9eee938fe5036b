use Rattle.std.proofs.Common.{◌<◌, ◌+◌, ◌-◌, ℕ, [], ◌∷◌, get_or, length, ap, ◌∙◌}
use Rattle.std.proofs.lemmas.List.{length-append, length-set}
use Rattle.std.proofs.lemmas.List.Elements.{All-get_or}
use Rattle.gi_serving.specs.Assigning.{IsNumber}
use Rattle.gi_serving.proofs.Dealing.{told_next}
use Rattle.gi_serving.proofs.batch.words_of.Goals as goal

pub loop-number-preserved : goal.loop-number-preserved
loop-number-preserved c =
    let numbers = c.args.numbers.now in
    let i = c.loop-number.number-index in
    let lists = c.loop-number.receipts.items in
    let below : i < length numbers = c.loop-number-test.true in
    let in_range = All-get_or (IsNumber (length c.args.receipts.items)) numbers i 0 below c.requires in
    record {
      count = ap length c.in_ok-push.ensures.items ∙ length-append c.loop-number.words.items (c.next_word.result ∷ []) ∙ ap (λ (n : ℕ). n + 1) c.loop-number.invariant.count;
      lists = length-set lists (get_or numbers i 0 - 1) c.next_word.new.receipts ∙ c.loop-number.invariant.lists;
      told =
          told_next numbers i c.args.receipts.items lists c.index_mut-list.result.now c.next_word.new.receipts c.loop-number.words.items c.push.new.self.items c.next_word.result
          below c.loop-number.invariant.count c.loop-number.invariant.lists in_range.0 in_range.1 c.index_mut-list.ensures.value c.next_word.ensures.word c.next_word.ensures.left c.in_ok-push.ensures.items
          c.loop-number.invariant.told;
    }

use Rattle.std.proofs.Common.{◌≡◌, ◌+◌, ◌-◌, map, ap, ◌∙◌, sym, [], ◌∷◌, ◌++◌, length, arith}
use Rattle.std.specs.List.{range_with_len}
use Rattle.std.proofs.lemmas.List.{length_push}
use Rattle.std.proofs.lemmas.List.FromFn.{map-range_with_len_more}
use Rattle.gi_office.specs.Opening.{new_seat}
use Rattle.gi_office.proofs.seating.seats_of.Goals as goal

pub loop-number-preserved : goal.loop-number-preserved
loop-number-preserved g c =
    let n = c.loop-number.number in
    let low = c.loop-number.auto.number in
    let had = c.loop-number.invariant.parts in
    let left = c.split_off-share.ensures.parts_left in
    let still = c.split_off-share.ensures.amount_left in
    let none = c.loop-number.invariant.none in
    let more : map (new_seat 1) (range_with_len 1 (n + 1 - 1)) ≡ map (new_seat 1) (range_with_len 1 (n - 1)) ++ new_seat 1 n ∷ [] =
    let e : n + 1 - 1 ≡ n - 1 + 1 = omega (arith, low) in
    ap (λ k. map (new_seat 1) (range_with_len 1 k)) e ∙ map-range_with_len_more (new_seat 1) 1 (n - 1) n (omega (arith, low)) in
    let seat : c.seat_of.result ≡ new_seat 1 n = c.seat_of.ensures ∙ ap (λ p. new_seat p n) c.split_off-share.ensures.parts in
    record {
      parts = omega (arith, had, left);
      none = omega (arith, still, none);
      counted = omega (arith, ap length c.push_reserved.ensures.items, length_push c.loop-number.seats.items c.seat_of.result, c.loop-number.invariant.counted);
      room = omega (arith, c.loop-number.invariant.room, c.push_reserved.ensures.capacity);
      seats = c.push_reserved.ensures.items ∙ (λ i. c.loop-number.invariant.seats i ++ seat i ∷ []) ∙ sym more;
    }

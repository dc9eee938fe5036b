-- The messages in which an order and a response go out: there is one at least, and one after the other they have all rows.
use Rattle.std.proofs.Common.{◌≡◌, ◌≢◌, ◌+◌, ◌<◌, ◌≤◌, ℕ, List, [], ◌∷◌, length, map, filter, All, true, refl, sym, ap, ◌∙◌, subst, arith}
use Rattle.std.specs.Int.{IsInRange}
use Rattle.std.specs.List.{range_with_len}
use Rattle.std.proofs.lemmas.List.{length-append, length-map}
use Rattle.std.proofs.lemmas.List.Elements.{All-from_get_or}
use Rattle.std.proofs.lemmas.List.Folds.{flat_map-map}
use Rattle.std.proofs.lemmas.List.FromFn.{get_or-range_with_len, length-map-range_with_len, length-range_with_len}
use Rattle.std.proofs.lemmas.List.Sorted.{length_permutation}
use Rattle.gi_pairs.specs.Row.{key_of}
use Rattle.gi_pairs.specs.Table.{TableContents, in_order, keys_of}
use Rattle.gi_pairs.proofs.TableLaws.{in_order-permutation}
use Rattle.gi_messages.specs.declared.message.Message.{Message}
use Rattle.gi_messages.specs.declared.message.Message.TheVariants as messages
use Rattle.gi_lesser.specs.Lesser.{keys_of_both, lacks, lesser_of, lesser_row}
use Rattle.gi_cycles.specs.States.{FrozenCycle, MatchedCycle, matched_of}
use Rattle.gi_parts.specs.Splitting.{parts_for, parts_of_whole}
use Rattle.gi_parts.proofs.Splits.{carries-all_rows, room-parts, some-parts}
use Rattle.gi_desk.specs.Laws.{SendsWholeTables, confirmed_in, processed_in}
use Rattle.gi_desk.specs.LetOut.{sent}
use Rattle.gi_desk.specs.Machine.{some_leave}
use Rattle.gi_desk.specs.Messages.{order_of, order_part, orders_of, response_of, response_part, responses_of}

-- what holds of each number of a part holds of all
pub each-part : (P : ℕ → Type 0) (parts : ℕ) → ((number : ℕ) → IsInRange 1 parts number → P number) → All P (range_with_len 1 parts)
each-part P parts each =
    All-from_get_or P (range_with_len 1 parts) 0
    (λ i below.
    let within : i < parts = omega (arith, below, length-range_with_len 1 parts) in
    subst P (sym (get_or-range_with_len 1 parts i 0 within)) (each (1 + i) (omega arith, omega (arith, within))))

-- the lesser has a row for each row of the own table
pub lesser-has_own_rows : (own peer : TableContents) → length own.rows ≤ length (lesser_of own peer).rows
unfolding lesser_of
lesser-has_own_rows own peer =
    let keys = keys_of_both own peer in
    let rows = map (lesser_row own peer) keys in
    let more = filter (lacks own) (keys_of peer.rows) in
    let same : length (in_order rows) ≡ length rows = length_permutation rows (in_order rows) (in_order-permutation rows) in
    let counted : length rows ≡ length keys = length-map keys (lesser_row own peer) in
    let both : length keys ≡ length (keys_of own.rows) + length more = length-append (keys_of own.rows) more in
    omega (arith, same, counted, both, length-map own.rows key_of)

abbrev order : List ℕ → FrozenCycle → ℕ → Message
order point cycle number = messages.Delord (order_part point cycle number)

abbrev response : List ℕ → MatchedCycle → ℕ → Message
response point cycle number = messages.Delres (response_part point cycle number)

-- there is always something to send
not_none : (message : ℕ → Message) (rows : ℕ) → map message (range_with_len 1 (parts_for rows)) ≢ []
not_none message rows = λ none.
    let empty : parts_for rows ≡ 0 = sym (length-map-range_with_len message 1 (parts_for rows)) ∙ ap length none in omega (arith, some-parts rows, empty)

pub orders-some : (point : List ℕ) (cycle : FrozenCycle) → orders_of point cycle ≢ []
orders-some point cycle = not_none (order point cycle) (length cycle.own.rows)

pub responses-some : (point : List ℕ) (cycle : MatchedCycle) → responses_of point cycle ≢ []
responses-some point cycle = not_none (response point cycle) (length cycle.confirmed.rows)

-- and so packets leave
pub leaves-some : (messages : List Message) → messages ≢ [] → some_leave (sent messages) ≡ true
leaves-some [] some = absurd (some refl)
leaves-some (message ∷ messages) some = refl

pub sends-whole_tables : SendsWholeTables
sends-whole_tables point cycle peer =
    let matched = matched_of cycle peer in
    let ordered = parts_of_whole (order_of cycle) in
    let responded = parts_of_whole (response_of matched) in
    let room = room-parts (length matched.confirmed.rows) in (
      flat_map-map processed_in (order point cycle) (range_with_len 1 ordered) ∙ carries-all_rows cycle.own ordered (room-parts (length cycle.own.rows)),
      flat_map-map processed_in (response point matched) (range_with_len 1 responded) ∙ carries-all_rows cycle.own responded (omega (arith, room, lesser-has_own_rows cycle.own peer)),
      flat_map-map confirmed_in (response point matched) (range_with_len 1 responded) ∙ carries-all_rows matched.confirmed responded room,
    )

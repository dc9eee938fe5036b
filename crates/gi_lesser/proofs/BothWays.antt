-- The lesser of two tables is the same whichever comes first.
use Rattle.std.proofs.Common.{◌≡◌, ℕ, List, [], ◌∷◌, map, min, inl, inr, refl, sym, ◌∙◌, subst}
use Rattle.std.specs.List.{range_with_len}
use Rattle.std.proofs.Math.Nat.{min_comm}
use Rattle.gi_pairs.specs.Table.{TableContents, covered, reading}
use Rattle.gi_pairs.specs.declared.key.Key.{Key}
use Rattle.gi_pairs.specs.declared.row.Row.{Row}
use Rattle.gi_pairs.proofs.Building.{In, in_in_order, in_order_in, same_rows}
use Rattle.gi_pairs.proofs.Members.{from_map, in_map}
use Rattle.gi_lesser.specs.Laws.{LessensBothWays}
use Rattle.gi_lesser.specs.Lesser.{HasShapeOf, keys_of_both, lesser_of, lesser_row}
use Rattle.gi_lesser.proofs.LesserLaws.{both_from_own, both_from_peer, in_both, rows-sorted}

lower_comm : (f g : ℕ → ℕ) (hs : List ℕ) → map (λ h. min (f h) (g h)) hs ≡ map (λ h. min (g h) (f h)) hs
lower_comm f g [] = refl
lower_comm f g (h ∷ hs) = λ i. min_comm (f h) (g h) i ∷ lower_comm f g hs i

row_comm : (own peer : TableContents) (key : Key) → HasShapeOf own peer → lesser_row own peer key ≡ lesser_row peer own key
unfolding lesser_row
row_comm own peer key shape =
    let of_own = λ (hour : ℕ). reading own key.pair key.direction hour in
    let of_peer = λ (hour : ℕ). reading peer key.pair key.direction hour in
    let moved : map (λ hour. min (of_peer hour) (of_own hour)) (range_with_len own.first (covered own.first own.last)) ≡ map (λ hour. min (of_peer hour) (of_own hour)) (range_with_len peer.first (covered peer.first peer.last)) =
    λ i. map (λ hour. min (of_peer hour) (of_own hour)) (range_with_len (shape.first i) (covered (shape.first i) (shape.last i))) in
    let hours = lower_comm of_own of_peer (range_with_len own.first (covered own.first own.last)) ∙ moved in
    λ i. record { pair = key.pair; direction = key.direction; hours = hours i }

key_comm : (own peer : TableContents) (key : Key) → In key (keys_of_both own peer) → In key (keys_of_both peer own)
key_comm own peer key h = elim (in_both own peer key h) [ inl k ↦ both_from_peer peer own key k | inr k ↦ both_from_own peer own key k ]

-- a row of the lesser one way is a row of the lesser the other way
in_other : (own peer : TableContents) (row : Row) → HasShapeOf own peer → In row (lesser_of own peer).rows → In row (lesser_of peer own).rows
unfolding lesser_of
in_other own peer row shape h =
    let made = from_map (lesser_row own peer) row (keys_of_both own peer) (in_in_order row (map (lesser_row own peer) (keys_of_both own peer)) h) in
    let there = in_map (lesser_row peer own) made.0 (keys_of_both peer own) (key_comm own peer made.0 made.1) in
    let same : lesser_row peer own made.0 ≡ row = sym (row_comm own peer made.0 shape) ∙ made.2 in
    in_order_in row (map (lesser_row peer own) (keys_of_both peer own)) (subst (λ (r : Row). In r (map (lesser_row peer own) (keys_of_both peer own))) same there)

pub both-ways : LessensBothWays
unfolding lesser_of
both-ways a b of_a of_b shape =
    let back : HasShapeOf b a = record { first = sym shape.first; last = sym shape.last } in
    let rows : (lesser_of a b).rows ≡ (lesser_of b a).rows =
    same_rows (lesser_of a b).rows (lesser_of b a).rows (rows-sorted a b of_a of_b) (rows-sorted b a of_b of_a) (λ r h. in_other a b r shape h) (λ r h. in_other b a r back h) in
    λ i. record { first = shape.first i; last = shape.last i; rows = rows i }

-- Where packets leave.
use Rattle.std.proofs.Common.{arith, ◌≡◌, ◌<◌, ◌≤◌, ◌+◌, ◌-◌, ℕ, zero, suc, List, [], ◌∷◌, ◌++◌, length, map, Bool, true, false, cond, nat_eq, refl, subst}
use Rattle.std.specs.Prelude.{max}
use Rattle.std.specs.List.{flat_map, range_with_len}
use Rattle.std.specs.Ordering.{is_lt}
use Rattle.std.specs.Str.{bytes_eq}
use Rattle.std.proofs.lemmas.Bool.Decides.{nat_tests}
use Rattle.gi_pairs.specs.Key.{code_cmp}
use Rattle.gi_pairs.specs.Pair.{code_at}
use Rattle.gi_pairs.specs.declared.row.Row.{Row}
use Rattle.gi_pairs.specs.declared.side.Side.{Side}
use Rattle.gi_cycles.specs.States.{MatchedCycle}
use Rattle.gi_desk.specs.LetOut.{let_out}
use Rattle.gi_desk.specs.Machine.{DeskState, some_leave}
use Rattle.gi_desk.specs.Messages.{portfolios_in, told_packets, with_code}
use Rattle.gi_desk.specs.Queries.{outgoing}
use Rattle.gi_desk.specs.declared.packet.Packet.{Packet}

-- ---- of lists

pub leave-first : (xs ys : List Packet) → some_leave xs ≡ true → some_leave (xs ++ ys) ≡ true
leave-first [] ys some = absurd cc
leave-first (x ∷ xs) ys some = refl

pub leave-last : (xs ys : List Packet) → some_leave ys ≡ true → some_leave (xs ++ ys) ≡ true
leave-last [] ys some = some
leave-last (x ∷ xs) ys some = refl

pub leave-many : (xs : List Packet) → 0 < length xs → some_leave xs ≡ true
leave-many [] some = absurd (omega (arith, some))
leave-many (x ∷ xs) some = refl

-- ---- of a confirmed table

with_some : (code : List ℕ) (codes : List (List ℕ)) → 0 < length (with_code code codes)
with_some code [] = omega arith
with_some code (x ∷ xs) = by_tests (bytes_eq code x) (is_lt (code_cmp code x))
  where
    by_tests : (same below : Bool) → 0 < length (cond same (x ∷ xs) (cond below (code ∷ x ∷ xs) (x ∷ with_code code xs)))
    by_tests true below = omega arith
    by_tests false true = omega arith
    by_tests false false = omega arith

pub some-portfolio : (side : Side) (rows : List Row) → 0 < length rows → 0 < length (portfolios_in side rows)
some-portfolio side [] some = some
some-portfolio side (row ∷ rows) some = with_some (code_at side row.pair) (portfolios_in side rows)

some_told : (tells : List ℕ → Packet) (portfolios : List (List ℕ)) → 0 < length portfolios → some_leave (map tells portfolios) ≡ true
some_told tells [] some = absurd (omega (arith, some))
some_told tells (portfolio ∷ portfolios) some = refl

pub told-leave : (side : Side) (point : List ℕ) (cycle : MatchedCycle) → 0 < length (portfolios_in side cycle.confirmed.rows) → some_leave (told_packets side point cycle) ≡ true
unfolding told_packets
told-leave side point cycle some = some_told _ (portfolios_in side cycle.confirmed.rows) some

-- ---- of saved facts

leave_among : (f : ℕ → List Packet) (from count n : ℕ) → from ≤ n → n < from + count → some_leave (f n) ≡ true → some_leave (flat_map f (range_with_len from count)) ≡ true
leave_among f from zero n above below some = absurd (omega (arith, above, below))
leave_among f from (suc count) n above below some = by_first (nat_eq n from) refl (λ later. leave_among f (from + 1) count n later (omega (arith, below)) some)
  where
    by_first : (b : Bool) → nat_eq n from ≡ b → (from + 1 ≤ n → some_leave (flat_map f (range_with_len (from + 1) count)) ≡ true) → some_leave (f from ++ flat_map f (range_with_len (from + 1) count)) ≡ true
    by_first true is after =
        let here : n ≡ from = grind (arith, nat_tests, is) in
        leave-first (f from) (flat_map f (range_with_len (from + 1) count)) (subst (λ (m : ℕ). some_leave (f m) ≡ true) here some)
    by_first false is after =
        let later : from + 1 ≤ n = grind (arith, nat_tests, is, above) in leave-last (f from) (flat_map f (range_with_len (from + 1) count)) (after later)

pub outgoing-leave : (side : Side) (s : DeskState) (first n : ℕ) → max 1 first ≤ n → n ≤ s.saved → some_leave (let_out side s.point s.facts n) ≡ true → some_leave (outgoing side s first) ≡ true
unfolding outgoing
outgoing-leave side s first n above below some =
    leave_among (let_out side s.point s.facts) (max 1 first) (s.saved + 1 - max 1 first) n above (omega (arith, above, below)) some

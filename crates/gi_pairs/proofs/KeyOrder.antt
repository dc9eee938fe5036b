-- The order of keys: total, and equal only for one key.
use Rattle.std.proofs.Common.{◌≡◌, ℕ, List, true, false, refl, sym, ◌∙◌, rules, ap}
use Rattle.std.specs.declared.cmp.Ordering.{Ordering}
use Rattle.std.specs.declared.cmp.Ordering.TheVariants.{Less, Equal, Greater}
use Rattle.std.specs.Cmp.{IsTotalOrder}
use Rattle.std.specs.Cmp.Rules.{comparing}
use Rattle.std.specs.Ordering.{nat_cmp, is_eq, ordering_then, ordering_reverse}
use Rattle.std.proofs.lemmas.Map.Text.{is_eq-slice_cmp}
use Rattle.std.proofs.lemmas.Slice.Eq.{bytes_eq-Decides}
use Rattle.gi_pairs.specs.Direction.{place_of}
use Rattle.gi_pairs.specs.Key.{code_cmp, pair_cmp, key_cmp}
use Rattle.gi_pairs.specs.declared.direction.Direction.{Direction}
use Rattle.gi_pairs.specs.declared.direction.Direction.TheVariants.{IM, MI}
use Rattle.gi_pairs.specs.declared.key.Key.{Key}

pub key_total : IsTotalOrder key_cmp
key_total = search (comparing, rules)

code_same : (a b : List ℕ) → is_eq (code_cmp a b) ≡ true → a ≡ b
code_same a b e = (bytes_eq-Decides a b).0 (sym (is_eq-slice_cmp a b) ∙ e)

then_equal : (o p : Ordering) → is_eq (ordering_then o p) ≡ true → (is_eq o ≡ true) × (is_eq p ≡ true)
then_equal Less p e = cc
then_equal Equal p e = (refl, e)
then_equal Greater p e = cc

direction_same : (a b : Direction) → is_eq (nat_cmp (place_of a) (place_of b)) ≡ true → a ≡ b
direction_same IM IM e = refl
direction_same IM MI e = cc
direction_same MI IM e = cc
direction_same MI MI e = refl

-- keys that compare equal are one key
pub key_same : (a b : Key) → is_eq (key_cmp a b) ≡ true → a ≡ b
key_same a b e =
    let both = then_equal (pair_cmp a.pair b.pair) (nat_cmp (place_of a.direction) (place_of b.direction)) e in
    let codes = then_equal (code_cmp a.pair.initiating b.pair.initiating) (code_cmp a.pair.matching b.pair.matching) both.0 in
    let initiating = code_same a.pair.initiating b.pair.initiating codes.0 in
    let matching = code_same a.pair.matching b.pair.matching codes.1 in
    let direction = direction_same a.direction b.direction both.1 in
    λ i. record { pair = record { initiating = initiating i; matching = matching i }; direction = direction i }

reversed_equal : (o p : Ordering) → o ≡ ordering_reverse p → is_eq o ≡ is_eq p
reversed_equal o Less e = ap is_eq e
reversed_equal o Equal e = ap is_eq e
reversed_equal o Greater e = ap is_eq e

-- which key stands first does not matter to whether they are equal
pub key_flips : (a b : Key) → is_eq (key_cmp a b) ≡ is_eq (key_cmp b a)
key_flips a b = reversed_equal (key_cmp a b) (key_cmp b a) (key_total.antisymm a b)

reversed_self : (o : Ordering) → o ≡ ordering_reverse o → is_eq o ≡ true
reversed_self Less e = cc
reversed_self Equal e = refl
reversed_self Greater e = cc

-- a key is equal to itself
pub key_refl : (a : Key) → is_eq (key_cmp a a) ≡ true
key_refl a = reversed_self (key_cmp a a) (key_total.antisymm a a)

pub not_less_self : (a : Key) → key_cmp a a ≡ Less → ⊥
not_less_self a less = let equal = key_refl a in let apart : is_eq (key_cmp a a) ≡ false = ap is_eq less in cc

less_reversed : (o : Ordering) → Less ≡ ordering_reverse o → o ≡ Less → ⊥
less_reversed o e less = let bad : Less ≡ Greater = e ∙ ap ordering_reverse less in cc

pub not_both_less : (a b : Key) → key_cmp a b ≡ Less → key_cmp b a ≡ Less → ⊥
not_both_less a b here there = less_reversed (key_cmp b a) (sym here ∙ key_total.antisymm a b) there

greater_reversed : (o p : Ordering) → p ≡ ordering_reverse o → o ≡ Greater → p ≡ Less
greater_reversed o p e greater = e ∙ ap ordering_reverse greater

-- a key that is neither less nor equal is greater
pub less_from_not : (a b : Key) → (key_cmp a b ≡ Less → ⊥) → is_eq (key_cmp a b) ≡ false → key_cmp b a ≡ Less
less_from_not a b not_less apart = by_cases (key_cmp a b) refl
  where
    by_cases : (o : Ordering) → key_cmp a b ≡ o → key_cmp b a ≡ Less
    by_cases Less e = absurd (not_less e)
    by_cases Equal e = let same : is_eq (key_cmp a b) ≡ true = ap is_eq e in cc
    by_cases Greater e = greater_reversed (key_cmp a b) (key_cmp b a) (key_total.antisymm b a) e

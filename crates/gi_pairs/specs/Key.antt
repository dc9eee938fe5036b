-- What rows are for, and their order.
use Rattle.std.specs.Prelude.{ℕ, List}
use Rattle.std.specs.declared.cmp.Ordering.{Ordering}
use Rattle.std.specs.Ordering.{nat_cmp, on, then_cmp}
use Rattle.std.specs.Cmp.Lexicographic.{slice_cmp}
use Rattle.gi_pairs.specs.Code.{IsCode}
use Rattle.gi_pairs.specs.Direction.{place_of}
use Rattle.gi_pairs.specs.declared.key.Key.{Key}
use Rattle.gi_pairs.specs.declared.pair.Pair.{Pair}

-- codes go by their bytes
abbrev pub code_cmp : List ℕ → List ℕ → Ordering
code_cmp = slice_cmp nat_cmp

-- by the initiating code, then by the matching one
abbrev pub pair_cmp : Pair → Pair → Ordering
pair_cmp = then_cmp (on (λ p. p.initiating) code_cmp) (on (λ p. p.matching) code_cmp)

-- table order: by the pair, then `IM` before `MI`
abbrev pub key_cmp : Key → Key → Ordering
key_cmp = then_cmp (on (λ k. k.pair) pair_cmp) (on (λ k. k.direction) (on place_of nat_cmp))

-- a key of two codes
pub record IsKey (key : Key) : Type 0 where
  pub initiating : IsCode key.pair.initiating
  pub matching : IsCode key.pair.matching

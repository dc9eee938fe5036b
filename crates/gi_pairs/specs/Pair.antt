-- Pairs, as a side sees them.
use Rattle.std.specs.Prelude.{ℕ, List}
use Rattle.gi_pairs.specs.declared.pair.Pair.{Pair}
use Rattle.gi_pairs.specs.declared.side.Side.{Side}
use Rattle.gi_pairs.specs.declared.side.Side.TheVariants.{I, M}

-- the code of the pair's portfolio at a side
abbrev pub code_at : Side → Pair → List ℕ
code_at I pair = pair.initiating
code_at M pair = pair.matching

-- the pair of a side's portfolio and its counterparty at the other side
abbrev pub pair_of : Side → List ℕ → List ℕ → Pair
pair_of I own other = record { initiating = own; matching = other }
pair_of M own other = record { initiating = other; matching = own }

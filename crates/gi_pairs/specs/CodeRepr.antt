-- What keeps a code is given back by the code.
use Rattle.std.specs.Prelude.{◌≡◌, ℕ, List, length, take}
use Rattle.std.proofs.Common.{sym}
use Rattle.gi_pairs.specs.Code.{CodeInvariant, padded}
use Rattle.gi_pairs.specs.declared.code.Code.TheInside.{Inside}

-- the bytes and the length, from the text alone
abbrev pub kept_of : List ℕ → Inside
kept_of text = record { bytes = padded text; len = length text }

pub kept_is : (c : Inside) → CodeInvariant c.bytes c.len → kept_of (take c.len c.bytes) ≡ c
kept_is c kept = λ i. record { bytes = sym kept.rest i; len = kept.exact i }

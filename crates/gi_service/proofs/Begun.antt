-- What a reader that was just made has left.
use Rattle.std.proofs.Common.{◌≡◌, ◌∙◌, ℕ, List, [], ap, refl, Option, None, Some}
use Rattle.std.specs.Io.Buffered.{reader_buffer, reader_capacity, reader_inner, reader_remaining}
use Rattle.std.specs.Io.KnownBytes.{Keeps, prepend_known}
use Rattle.std.specs.declared.io.buffered.BufReader.{BufReader}

none_before : (known : Option (List ℕ)) → prepend_known [] known ≡ known
none_before None = refl
none_before (Some bytes) = refl

-- all that its input has
pub begins : {T A : Type 0} (remaining : T → Option (List ℕ)) (reader : BufReader T A) (input : T)
    → reader_inner reader ≡ input → reader_buffer reader ≡ [] → reader_capacity reader ≡ 1_048_576 → reader_remaining remaining reader ≡ remaining input
begins remaining reader input inner none room =
    rw (room, none) (none_before (remaining (reader_inner reader)) ∙ ap remaining inner)

-- what is not written on stays
pub unchanged : (known : Option (List ℕ)) → Keeps known known
unchanged None = tt
unchanged (Some bytes) = refl

-- What a seat is after a call.
use Rattle.std.proofs.Common.{◌≡◌, ◌<◌, ℕ, ◌+◌, List, [], ◌∷◌, ◌++◌, length, sym, ap, subst, arith}
use Rattle.std.proofs.lemmas.List.{length_push}
use Rattle.gi_office.specs.Keeping.{IsFull, IsSeat, SeatState}
use Rattle.gi_office.specs.Limits.{most_notes}
use Rattle.gi_office.specs.declared.note.Note.{Note}

-- a seat that has noted one call more
pub seat_noted :
    (number : ℕ) (notes pushed : List Note) (note : Note) (amount more parts left : ℕ) → IsSeat (record { number = number; notes = notes; amount = amount; parts = parts })
    → length notes < most_notes → pushed ≡ notes ++ note ∷ [] → more ≡ amount + 1 → left ≡ parts
    → IsSeat (record { number = number; notes = pushed; amount = more; parts = left })
seat_noted number notes pushed note amount more parts left seat below push one same =
    let long = ap (length {A = Note}) push in
    let pushed_long = length_push notes note in record {
      counted = omega (arith, seat.counted, long, pushed_long, one);
      room = omega (arith, long, pushed_long, below);
      backed = omega (arith, seat.backed, same);
    }

pub none_full : {P : Type 0} (seen seat : SeatState) → seen ≡ seat → length seen.notes < most_notes → IsFull seat → P
none_full seen seat is below full = let so = subst (λ (s : SeatState). IsFull s) (sym is) full in absurd (omega (arith, below, so))

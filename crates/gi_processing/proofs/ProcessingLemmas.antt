-- What the rows of the processed table are made of.
use Rattle.std.proofs.Common.{◌≡◌, ℕ, ◌==◌, List, [], ◌∷◌, length, filter, All, Bool, true, false, cond}
use Rattle.std.proofs.lemmas.Bool.{and_parts}
use Rattle.std.proofs.lemmas.Bool.Decides.{Decides-eqb}
use Rattle.std.proofs.lemmas.List.Elements.{All-cons, All-nil}
use Rattle.gi_messages.specs.declared.nomination_line.NominationLine.{NominationLine}
use Rattle.gi_nominations.specs.Lines.{has_hours}

-- each line that is kept has the hours that all have
pub kept_whole : (p : NominationLine → Bool) (hours : ℕ) (lines : List NominationLine) → has_hours hours lines ≡ true → All (λ (line : NominationLine). length line.hours ≡ hours) (filter p lines)
kept_whole p hours [] whole = All-nil (λ (line : NominationLine). length line.hours ≡ hours)
kept_whole p hours (x ∷ xs) whole =
    let both = and_parts (length x.hours == hours) (has_hours hours xs) whole in
    by_test (p x) (kept_whole p hours xs both.1) ((Decides-eqb (length x.hours) hours).0 both.0)
  where
    by_test : (b : Bool) → All (λ (line : NominationLine). length line.hours ≡ hours) (filter p xs) → length x.hours ≡ hours → All (λ (line : NominationLine). length line.hours ≡ hours) (cond b (x ∷ filter p xs) (filter p xs))
    by_test true rest here = All-cons (λ (line : NominationLine). length line.hours ≡ hours) x (filter p xs) here rest
    by_test false rest here = rest

-- The first line of a text, and the lines after it.
use Rattle.std.proofs.Common.{◌≡◌, ℕ, suc, ◌+◌, ◌<◌, ◌≤◌, Bool, true, false, ◌==◌, List, [], ◌∷◌, ◌++◌, length, take, drop, refl, ap, arith, subst, subst₂, Some, None, one-add, add-one, not, cond, eqb-true}
use Rattle.std.specs.List.{onto_first, position, position_or_len}
use Rattle.std.proofs.lemmas.Option.{cond_some}
use Rattle.std.proofs.lemmas.Bool.Decides.{nat_tests}
use Rattle.std.specs.Prelude.{nat_lt}
use Rattle.gi_text.specs.Lines.{lines, line_feed}

abbrev ends_line : ℕ → Bool
ends_line byte = byte == 10

-- how many bytes stand before the first line feed
abbrev before : List ℕ → ℕ
before bytes = position_or_len ends_line bytes

pub lines-empty : lines [] ≡ []
unfolding lines
lines-empty = refl

lines-line_feed : (byte : ℕ) (bytes : List ℕ) → ends_line byte ≡ true → lines (byte ∷ bytes) ≡ [] ∷ lines bytes
unfolding lines
lines-line_feed byte bytes ended = rw ended refl

lines-other : (byte : ℕ) (bytes : List ℕ) → ends_line byte ≡ false → lines (byte ∷ bytes) ≡ onto_first byte (lines bytes)
unfolding lines
lines-other byte bytes other = rw other refl

-- what a text is, and its lines, where its first line ends at a place
abbrev Parts : List ℕ → ℕ → Type 0
Parts bytes at =
    (lines bytes ≡ take at bytes ∷ lines (drop (at + 1) bytes)) × (bytes ≡ take at bytes ++ line_feed ∷ drop (at + 1) bytes)

-- one byte more in front, by whether it ends a line
before-cons : (byte : ℕ) (bytes : List ℕ) (ended : Bool) → ends_line byte ≡ ended → (before bytes < length bytes → Parts bytes (before bytes))
    → let n = cond (not ended) (1 + before bytes) 0 in
    n < length (byte ∷ bytes) → Parts (byte ∷ bytes) n
before-cons byte bytes true is rest within = (lines-line_feed byte bytes is, ap (λ (b : ℕ). b ∷ bytes) (eqb-true byte 10 is))
before-cons byte bytes false is rest within =
    let n = before bytes in
    let fewer : n < length bytes = omega arith in
    let parts : Parts bytes n = rest fewer in
    let next : n + 1 ≡ suc n = omega arith in
    let here : suc n ≡ 1 + n = omega arith in
    let behind : suc (suc n) ≡ (1 + n) + 1 = omega arith in
    let tail : bytes ≡ take n bytes ++ line_feed ∷ drop (suc n) bytes = subst (λ (m : ℕ). bytes ≡ take n bytes ++ line_feed ∷ drop m bytes) next parts.1 in (
      rw (lines-other byte bytes is, parts.0) (simp (one-add, add-one) refl),
      subst₂ (λ (m k : ℕ). byte ∷ bytes ≡ take m (byte ∷ bytes) ++ line_feed ∷ drop k (byte ∷ bytes)) here behind (ap (λ (l : List ℕ). byte ∷ l) tail),
    )

lines-before : (bytes : List ℕ) → before bytes < length bytes → Parts bytes (before bytes)
lines-before [] within = absurd (omega arith)
lines-before (byte ∷ bytes) within = before-cons byte bytes (ends_line byte) refl (lines-before bytes) within

-- the first line ends at the first line feed, and what follows it stands behind that
pub lines-ended : (bytes : List ℕ) (at : ℕ) → position ends_line bytes ≡ Some at → Parts bytes at
lines-ended bytes at found =
    let parts = cond_some (nat_lt (before bytes) (length bytes)) (before bytes) at found in
    let within : before bytes < length bytes = grind (arith, nat_tests, parts.0) in
    subst (Parts bytes) parts.1 (lines-before bytes within)

-- where no line feed stands, the first byte is none
not_ended : (byte : ℕ) (bytes : List ℕ) (ended : Bool) → ends_line byte ≡ ended
    → length (byte ∷ bytes) ≤ cond (not ended) (1 + before bytes) 0
    → (ends_line byte ≡ false) × (length bytes ≤ before bytes)
not_ended byte bytes true is all = absurd (omega arith)
not_ended byte bytes false is all = (is, omega arith)

one_line : (byte : ℕ) (bytes : List ℕ) → length (byte ∷ bytes) ≤ before (byte ∷ bytes)
    → lines (byte ∷ bytes) ≡ (byte ∷ bytes) ∷ []
one_line byte [] all =
    let first = not_ended byte [] (ends_line byte) refl all in
    rw (lines-other byte [] first.0, lines-empty) refl
one_line byte (next ∷ bytes) all =
    let first = not_ended byte (next ∷ bytes) (ends_line byte) refl all in
    rw (lines-other byte (next ∷ bytes) first.0, one_line next bytes first.1) refl

no_position : (bytes : List ℕ) → position ends_line bytes ≡ None → length bytes ≤ before bytes
no_position bytes none = grind (arith, nat_tests, none)

-- with no line feed all is one line
pub lines-unended : (bytes : List ℕ) → 0 < length bytes → position ends_line bytes ≡ None → lines bytes ≡ bytes ∷ []
lines-unended [] some none = absurd (omega arith)
lines-unended (byte ∷ bytes) some none = one_line byte bytes (no_position (byte ∷ bytes) none)

-- no byte, no line
pub lines-none : (bytes : List ℕ) → length bytes ≡ 0 → lines bytes ≡ []
lines-none [] none = lines-empty
lines-none (byte ∷ bytes) none = absurd (omega arith)

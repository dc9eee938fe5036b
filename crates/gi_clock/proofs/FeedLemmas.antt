-- The last line feed, and what is before and behind it.
use Rattle.std.proofs.Common.{◌≡◌, ◌==◌, ◌<◌, ◌∷◌, [], ℕ, zero, suc, Bool, true, false, List, length, take, drop, refl, ap, arith, sym}
use Rattle.std.specs.Prelude.{slice_index}
use Rattle.gi_clock.specs.Handing.{has_feed, open_line, whole_lines}

abbrev pub is_feed : ℕ → Bool
is_feed byte = byte == 10

not_true : (b : Bool) → ¬ (b ≡ true) → b ≡ false
not_true true never = absurd (never refl)
not_true false never = refl

abbrev pub IsSplit : List ℕ → ℕ → Type 0
IsSplit bytes at = (has_feed bytes ≡ true) × (take at bytes ≡ whole_lines bytes) × (drop at bytes ≡ open_line bytes)

none_whole : (bytes : List ℕ) → has_feed bytes ≡ false → whole_lines bytes ≡ []
none_whole [] never = refl
none_whole (byte ∷ bytes) never = rw never refl

all_open : (bytes : List ℕ) → has_feed bytes ≡ false → open_line bytes ≡ bytes
all_open [] never = refl
all_open (byte ∷ bytes) never = rw never refl

feed_here : (byte : ℕ) (bytes : List ℕ) → is_feed byte ≡ true → has_feed (byte ∷ bytes) ≡ true
feed_here byte bytes is = rw is refl

feed_later : (byte : ℕ) (bytes : List ℕ) → has_feed bytes ≡ true → has_feed (byte ∷ bytes) ≡ true
feed_later byte bytes later = at (is_feed byte) refl
  where
    at : (b : Bool) → is_feed byte ≡ b → has_feed (byte ∷ bytes) ≡ true
    at true is = rw is refl
    at false is = rw is later

no_feed : (byte : ℕ) (bytes : List ℕ) → is_feed byte ≡ false → has_feed bytes ≡ false → has_feed (byte ∷ bytes) ≡ false
no_feed byte bytes is later = rw is later

pub none : (bytes : List ℕ) → ((j : ℕ) → j < length bytes → ¬ (is_feed (slice_index bytes j) ≡ true)) → has_feed bytes ≡ false
none [] never = refl
none (byte ∷ bytes) never =
    no_feed byte bytes (not_true (is_feed byte) (never 0 (omega arith))) (none bytes (λ j below. never (suc j) (omega arith)))

joined : (byte : ℕ) (bytes : List ℕ) (k : ℕ) → has_feed (byte ∷ bytes) ≡ true → take k bytes ≡ whole_lines bytes → drop k bytes ≡ open_line bytes
    → IsSplit (byte ∷ bytes) (suc k)
joined byte bytes k feed front back = (feed, rw feed (ap (λ l. byte ∷ l) front), rw feed back)

pub found : (bytes : List ℕ) (k : ℕ) → k < length bytes → ((j : ℕ) → k < j → j < length bytes → ¬ (is_feed (slice_index bytes j) ≡ true))
    → is_feed (slice_index bytes k) ≡ true → IsSplit bytes (suc k)
found [] k within after at = absurd (omega arith)
found (byte ∷ bytes) zero within after at =
    let never = none bytes (λ j below. after (suc j) (omega arith) (omega arith)) in
    joined byte bytes 0 (feed_here byte bytes at) (sym (none_whole bytes never)) (sym (all_open bytes never))
found (byte ∷ bytes) (suc k) within after at =
    let later = found bytes k (omega arith) (λ j above below. after (suc j) (omega arith) (omega arith)) at in
    joined byte bytes (suc k) (feed_later byte bytes later.0) later.1 later.2

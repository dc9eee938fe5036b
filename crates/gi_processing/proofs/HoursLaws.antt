-- The rows of hours.
use Rattle.std.proofs.Common.{◌≡◌, ℕ, ◌-◌, if◌then◌else◌, Bool, true, false, get_or, nat_le, replicate, zero, suc, refl}
use Rattle.gi_processing.specs.HoursLeft.{left_at, whole}
use Rattle.gi_processing.specs.declared.hours_left.Thousandths.{Thousandths}

whole_in : (n i : ℕ) → get_or (replicate n whole) i whole ≡ whole
whole_in zero i = refl
whole_in (suc n) zero = refl
whole_in (suc n) (suc i) = whole_in n i

either_whole : (b : Bool) (left : Thousandths) → left ≡ whole → (if b then left else whole) ≡ whole
either_whole true left e = e
either_whole false left e = refl

-- a new row leaves all
pub new_whole : (n hour : ℕ) → left_at (replicate n whole) hour ≡ whole
new_whole n hour = either_whole (nat_le 1 hour) (get_or (replicate n whole) (hour - 1) whole) (whole_in n (hour - 1))

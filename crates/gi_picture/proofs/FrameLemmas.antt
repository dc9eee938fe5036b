-- Where values stand in a plot.
use Rattle.std.proofs.Common.{◌<◌, ◌≤◌, ◌+◌, ◌-◌, ◌*◌, ◌/◌, ℕ, zero, suc, max, Bool, true, false, arith}
use Rattle.std.specs.Prelude.{min, nat_eq, if◌then◌else◌}
use Rattle.std.proofs.Math.Nat.{div-le_of_le-mul, lt-mul-div-succ, mul-le-mul_right}
use Rattle.std.proofs.lemmas.Nat.{mul-le}
use Rattle.gi_picture.specs.Frame.{HoldsLevel, PlotsHoldAll, frame, height, tick_height}
use Rattle.gi_picture.specs.declared.frame.Frame.{Frame}
use Rattle.gi_picture.specs.declared.level.Level.{Level}
use Rattle.gi_picture.specs.declared.scale.Scale.{Scale}

one_at_least : (b t : ℕ) → b ≤ 200 → 200 < b * (t + 1) → 1 ≤ t
one_at_least b zero within more = omega (arith, within, more)
one_at_least b (suc t) within more = omega arith

lower : (risen most : ℕ) → 1 ≤ most → risen ≤ most → (b : Bool) → (if b then 0 else min 200 (max 1 risen)) ≤ most
lower risen most some within true = omega arith
lower risen most some within false = omega (arith, some, within)

-- a value that so many steps hold stands that many ticks from the zero line at most
pub height_within : (frame : Frame) (n value : ℕ) → 1 ≤ frame.tick → value ≤ n * frame.step → height frame value ≤ n * frame.tick
unfolding height
height_within frame n zero ticked within = omega arith
height_within frame zero (suc value) ticked within = omega (arith, within)
height_within frame (suc n) (suc value) ticked within =
    let most = mul-le 1 1 (suc n) frame.tick (omega arith) ticked in
    let whole = mul-le-mul_right frame.tick within in
    let same : suc value * frame.tick ≤ frame.step * (suc n * frame.tick) = omega (arith, whole) in
    lower (suc value * frame.tick / frame.step) (suc n * frame.tick) (omega (arith, most)) (div-le_of_le-mul frame.step same) (nat_eq (suc value) 0)

pub plots_hold : PlotsHoldAll
plots_hold hours level scale some ticks few =
    let ticked = one_at_least (scale.above + scale.below) (tick_height scale) few (lt-mul-div-succ 200 (omega (arith, ticks))) in
    record {
      above = λ within. let risen = height_within (frame hours scale) scale.above (level.up - level.down) ticked within in omega (arith, risen);
      below = λ within. let fallen = height_within (frame hours scale) scale.below (level.down - level.up) ticked within in omega (arith, fallen);
    }

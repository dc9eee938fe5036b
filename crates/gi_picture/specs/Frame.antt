-- Where a chart draws what: whole coordinates in a field of 684 by at most 307.
use Rattle.std.specs.Prelude.{◌≤◌, ◌<◌, ℕ, ◌+◌, ◌*◌, ◌-◌, ◌/◌, max, min, nat_eq, if◌then◌else◌}
use Rattle.gi_picture.specs.declared.frame.Frame.{Frame}
use Rattle.gi_picture.specs.declared.level.Level.{Level}
use Rattle.gi_picture.specs.declared.scale.Scale.{Scale}

-- the plot begins 84 from the left and 30 from the top, and is 456 by 200 at most
abbrev pub left : ℕ
left = 84

abbrev pub top : ℕ
top = 30

abbrev pub tall : ℕ
tall = 200

-- the height of a tick
abbrev pub tick_height : Scale → ℕ
tick_height scale = tall / (scale.above + scale.below)

abbrev pub zero_line : Scale → ℕ
zero_line scale = top + scale.above * tick_height scale

abbrev pub frame : ℕ → Scale → Frame
frame hours scale = record {
  column = 456 / hours;
  hours = hours;
  tick = tick_height scale;
  step = scale.step;
  above = scale.above;
  below = scale.below;
  zero = zero_line scale;
  floor = zero_line scale + scale.below * tick_height scale;
}

-- the bound of hours with this number, from 0
abbrev pub x : Frame → ℕ → ℕ
x frame bound = left + bound * frame.column

abbrev pub right : Frame → ℕ
right frame = x frame frame.hours

-- how far from the zero line a value stands: a value that is not 0 is seen, and none leaves the field
unfoldable pub height : Frame → ℕ → ℕ
height frame value = if nat_eq value 0 then 0 else min tall (max 1 (value * frame.tick / frame.step))

-- where a level stands: above the zero line where more goes up than down, else below it
abbrev pub y : Frame → Level → ℕ
y frame level = frame.zero + height frame (level.down - level.up) - height frame (level.up - level.down)

-- What an axis holds stands in the plot, above the zero line or below it, at its own height.
pub record HoldsLevel (scale : Scale) (frame : Frame) (level : Level) : Type 0 where
  pub above : level.up - level.down ≤ scale.above * scale.step → top ≤ y frame level
  pub below : level.down - level.up ≤ scale.below * scale.step → y frame level ≤ frame.floor

abbrev pub PlotsHoldAll : Type 0
PlotsHoldAll =
    (hours : ℕ) (level : Level) (scale : Scale) → 0 < scale.step → 1 ≤ scale.above + scale.below → scale.above + scale.below ≤ 200
    → HoldsLevel scale (frame hours scale) level

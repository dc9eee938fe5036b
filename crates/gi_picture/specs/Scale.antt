-- The scale of an axis: the least of the steps 1, 2, 5, 10, 20, 50, .. of which a few are enough.
use Rattle.std.specs.Prelude.{ℕ, zero, suc, ◌+◌, ◌*◌, ◌-◌, ◌/◌, ◌≤◌, max, Bool, nat_eq, nat_le, if◌then◌else◌}
use Rattle.gi_picture.specs.declared.scale.Scale.{Scale}

-- how many steps hold a size
unfoldable pub steps_for : ℕ → ℕ → ℕ
steps_for size step = if nat_eq size 0 then 0 else (size - 1) / step + 1

abbrev pub is_enough : ℕ → ℕ → ℕ → ℕ → Bool
is_enough above below most step = nat_le (steps_for above step + steps_for below step) most

-- the first of a unit, two of it, and five of it
unfoldable pub step_of_unit : ℕ → ℕ → ℕ → ℕ → ℕ
step_of_unit above below most unit = if is_enough above below most unit then unit else if is_enough above below most (2 * unit) then 2 * unit else 5 * unit

-- the largest unit that a step of so many more may begin from
abbrev pub largest : ℕ → ℕ
largest zero = 1_000_000_000_000_000_000
largest (suc more) = largest more / 10

-- The highest value itself is the step where no such step is enough.
abbrev pub step_from : ℕ → ℕ → ℕ → ℕ → ℕ → ℕ
step_from zero unit above below most = max 1 (max above below)
step_from (suc more) unit above below most =
    if is_enough above below most (5 * unit) then step_of_unit above below most unit else step_from more (10 * unit) above below most

unfoldable pub step : ℕ → ℕ → ℕ → ℕ
step above below most = step_from 18 1 above below most

-- one step where there is nothing to hold
abbrev pub at_least_one : ℕ → ℕ → ℕ
at_least_one above below = if nat_eq (above + below) 0 then 1 else above

abbrev pub scale_by : ℕ → ℕ → ℕ → Scale
scale_by above below step = record { step = step; above = at_least_one (steps_for above step) (steps_for below step); below = steps_for below step }

abbrev pub scale : ℕ → ℕ → ℕ → Scale
scale above below most = scale_by above below (step above below most)

-- An axis holds every value: each up to the highest, and each down to the lowest.
pub record HoldsAll (above below : ℕ) (scale : Scale) : Type 0 where
  pub up : (value : ℕ) → value ≤ above → value ≤ scale.above * scale.step
  pub down : (value : ℕ) → value ≤ below → value ≤ scale.below * scale.step

abbrev pub AxesHoldAll : Type 0
AxesHoldAll = (above below most : ℕ) → HoldsAll above below (scale above below most)

-- Scales.
use Rattle.std.proofs.Common.{◌≡◌, ◌<◌, ◌≤◌, ◌-◌, ◌+◌, ◌*◌, ◌/◌, ◌∙◌, ℕ, zero, suc, Bool, true, false, refl, ap, arith}
use Rattle.std.specs.Prelude.{max, nat_eq, if◌then◌else◌}
use Rattle.std.proofs.lemmas.Bool.Decides.{nat_tests}
use Rattle.std.proofs.Math.Nat.{div-eq_of_lt, lt-div-mul-add, mul-le-mul_right}
use Rattle.gi_picture.specs.Scale.{AxesHoldAll, HoldsAll, at_least_one, is_enough, largest, scale, scale_by, step, step_from, step_of_unit, steps_for}

-- a unit that a step may begin from is at most the largest
pub largest_least : (more : ℕ) → largest more ≤ largest 0
largest_least zero = omega arith
largest_least (suc more) = let before = largest_least more in omega (arith, before)

pub unit_small : (more unit : ℕ) → unit ≤ largest more → unit ≤ 1_000_000_000_000_000_000
unit_small more unit within = let small = largest_least more in omega (arith, within, small)

not_zero : (n : ℕ) → nat_eq (suc n) 0 ≡ false
not_zero n = grind (arith, nat_tests)

-- the steps for what is not 0
steps_some : (n by : ℕ) → steps_for (suc n) by ≡ n / by + 1
unfolding steps_for
steps_some n by =
    let same : suc n - 1 ≡ n = omega arith in
    ap (λ b. if b then 0 else ((suc n - 1) / by + 1)) (not_zero n) ∙ ap (λ m. m / by + 1) same

steps_none : (by : ℕ) → steps_for 0 by ≡ 0
unfolding steps_for
steps_none by = refl

-- one step of the size itself
pub one_step : (size by : ℕ) → size ≤ by → 0 < by → steps_for size by ≤ 1
one_step zero by within some = let is = steps_none by in omega (arith, is)
one_step (suc n) by within some =
    let below : n < by = omega (arith, within) in
    let none = div-eq_of_lt below in
    let is = steps_some n by in
    omega (arith, none, is)

pub highest_enough : (above below step most : ℕ) → step ≡ max 1 (max above below) → 2 ≤ most → steps_for above step + steps_for below step ≤ most
highest_enough above below step most is two =
    let up = one_step above step (omega (arith, is)) (omega (arith, is)) in
    let down = one_step below step (omega (arith, is)) (omega (arith, is)) in
    omega (arith, up, down, two)

-- ---- an axis holds every value

steps_hold : (size by : ℕ) → 0 < by → size ≤ steps_for size by * by
steps_hold zero by some = omega arith
steps_hold (suc n) by some =
    let holds = lt-div-mul-add {a = n} {b = by} some in
    let is = ap (λ m. m * by) (steps_some n by) in
    omega (arith, holds, is)

at_least_is : (a b : ℕ) → a ≤ at_least_one a b
at_least_is a b = grind (arith, nat_tests)

holds_by : (above below by : ℕ) → 0 < by → HoldsAll above below (scale_by above below by)
holds_by above below by some =
    let more = mul-le-mul_right by (at_least_is (steps_for above by) (steps_for below by)) in
    let up = steps_hold above by some in
    let down = steps_hold below by some in
    record { up = λ value within. omega (arith, within, up, more); down = λ value within. omega (arith, within, down) }

positive_unit : (above below most unit : ℕ) → 0 < unit → 0 < step_of_unit above below most unit
unfolding step_of_unit
positive_unit above below most unit some = grind (arith, some)

positive_from : (more unit above below most : ℕ) → 0 < unit → 0 < step_from more unit above below most
positive_from zero unit above below most some = omega arith
positive_from (suc more) unit above below most some =
    let rest = positive_from more (10 * unit) above below most (omega (arith, some)) in
    let here = positive_unit above below most unit some in
    grind (arith, rest, here)

pub axes_hold : AxesHoldAll
unfolding step
axes_hold above below most = holds_by above below (step above below most) (positive_from 18 1 above below most (omega arith))

-- ---- the steps of an axis are few

abbrev Enough : ℕ → ℕ → ℕ → ℕ → Type 0
Enough above below most step = steps_for above step + steps_for below step ≤ most

enough_is : (above below most step : ℕ) → is_enough above below most step ≡ true → Enough above below most step
enough_is above below most step is = grind (arith, nat_tests, is)

enough_if : (above below most a b : ℕ) (t : Bool) → (t ≡ true → Enough above below most a) → (t ≡ false → Enough above below most b) → Enough above below most (if t then a else b)
enough_if above below most a b true here there = here refl
enough_if above below most a b false here there = there refl

unit_enough : (above below most unit : ℕ) → is_enough above below most (5 * unit) ≡ true → Enough above below most (step_of_unit above below most unit)
unfolding step_of_unit
unit_enough above below most unit five =
    enough_if above below most unit _ (is_enough above below most unit) (enough_is above below most unit) (λ _.
    enough_if above below most (2 * unit) (5 * unit) (is_enough above below most (2 * unit)) (enough_is above below most (2 * unit)) (λ _. enough_is above below most (5 * unit) five))

from_enough : (more unit above below most : ℕ) → 2 ≤ most → Enough above below most (step_from more unit above below most)
from_enough zero unit above below most two = highest_enough above below (max 1 (max above below)) most refl two
from_enough (suc more) unit above below most two =
    enough_if above below most _ _ (is_enough above below most (5 * unit)) (unit_enough above below most unit) (λ _. from_enough more (10 * unit) above below most two)

pub scale_step : (above below most : ℕ) → 0 < (scale above below most).step
unfolding step
scale_step above below most = positive_from 18 1 above below most (omega arith)

pub scale_some : (above below most : ℕ) → 1 ≤ (scale above below most).above + (scale above below most).below
scale_some above below most = grind (arith, nat_tests)

step_enough : (above below most : ℕ) → 2 ≤ most → Enough above below most (step above below most)
unfolding step
step_enough above below most two = from_enough 18 1 above below most two

few_ticks : (a b most : ℕ) → 2 ≤ most → a + b ≤ most → at_least_one a b + b ≤ most
few_ticks a b most two few = grind (arith, nat_tests, two, few)

pub scale_few : (above below most : ℕ) → 2 ≤ most → (scale above below most).above + (scale above below most).below ≤ most
scale_few above below most two = few_ticks (steps_for above (step above below most)) (steps_for below (step above below most)) most two (step_enough above below most two)

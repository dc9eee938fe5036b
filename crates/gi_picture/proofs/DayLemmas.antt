-- The lines of a day stand in the plots of its charts.
use Rattle.std.proofs.Common.{◌≡◌, ◌<◌, ◌≤◌, ◌+◌, ◌-◌, ◌*◌, ℕ, zero, suc, List, [], ◌∷◌, length, max, refl, arith}
use Rattle.std.specs.Prelude.{Option, Some, None, option_map, IfSome, slice_index_or}
use Rattle.gi_pairs.specs.declared.direction.Direction.{Direction}
use Rattle.gi_pairs.specs.declared.direction.Direction.TheVariants.{IM, MI}
use Rattle.gi_picture.specs.Frame.{frame, top, y}
use Rattle.gi_picture.specs.Heights.{ChartsHoldTheDay, DirectionStands, NetHoldsTheDay, NetStands, direction_frame, higher_of, highest, highest_force, net_frame}
use Rattle.gi_picture.specs.Lines.{level_if}
use Rattle.gi_picture.specs.Quantities.{amounts_in, in_force_of, value_if}
use Rattle.gi_picture.specs.Scale.{scale}
use Rattle.gi_picture.specs.Values.{value_or_none}
use Rattle.gi_picture.specs.declared.hour.Hour.{Hour}
use Rattle.gi_picture.proofs.FrameLemmas.{plots_hold}
use Rattle.gi_picture.proofs.ScaleLemmas.{axes_hold, scale_few, scale_some, scale_step}

nothing : (cycle : Option ℕ) (n : ℕ) → value_or_none (value_if cycle 0) ≤ n
nothing None n = omega arith
nothing (Some cycle) n = omega arith

-- a level that an axis holds stands in the plot
stands : (count above below most : ℕ) → 2 ≤ most → most ≤ 200 → (cycle : Option ℕ) (up down : ℕ) → value_or_none (value_if cycle up) ≤ above → value_or_none (value_if cycle down) ≤ below
    → IfSome (option_map (y (frame count (scale above below most))) (level_if cycle up down)) (λ place. (top ≤ place) × (place ≤ (frame count (scale above below most)).floor))
stands count above below most two few None up down risen fallen = tt
stands count above below most two few (Some cycle) up down risen fallen =
    let axis = axes_hold above below most in
    let ticks = scale_few above below most two in
    let holds = plots_hold count (record { up = up; down = down }) (scale above below most) (scale_step above below most) (scale_some above below most) (omega (arith, ticks, few)) in
    (holds.above (axis.up (up - down) (omega (arith, risen))), holds.below (axis.down (down - up) (omega (arith, fallen))))

higher_at : (direction : Direction) (hours : List Hour) (k : ℕ) (d : Hour) → k < length hours → higher_of direction (slice_index_or hours k d) ≤ highest direction hours
higher_at direction [] k d below = elim below [ ]
higher_at direction (hour ∷ hours) zero d below = omega arith
higher_at direction (hour ∷ hours) (suc k) d below = let rest = higher_at direction hours k d (omega (arith, below)) in omega (arith, rest)

force_at : (direction : Direction) (hours : List Hour) (k : ℕ) (d : Hour) → k < length hours → value_or_none (in_force_of direction (slice_index_or hours k d)) ≤ highest_force direction hours
force_at direction [] k d below = elim below [ ]
force_at direction (hour ∷ hours) zero d below = omega arith
force_at direction (hour ∷ hours) (suc k) d below = let rest = force_at direction hours k d (omega (arith, below)) in omega (arith, rest)

direction_stands : (count : ℕ) (direction : Direction) (hours : List Hour) (hour : Hour) → higher_of direction hour ≤ highest direction hours
    → DirectionStands (direction_frame count direction hours) direction hour
direction_stands count direction hours hour within = record {
  nominated = stands count (highest direction hours) 0 5 (omega arith) (omega arith) hour.shown (amounts_in direction hour).nominated 0 (omega (arith, within)) (nothing hour.shown 0);
  processed = stands count (highest direction hours) 0 5 (omega arith) (omega arith) hour.shown (amounts_in direction hour).processed 0 (omega (arith, within)) (nothing hour.shown 0);
  peers = stands count (highest direction hours) 0 5 (omega arith) (omega arith) hour.cycle (amounts_in direction hour).peers 0 (omega (arith, within)) (nothing hour.cycle 0);
  in_force = stands count (highest direction hours) 0 5 (omega arith) (omega arith) hour.cycle (amounts_in direction hour).in_force 0 (omega (arith, within)) (nothing hour.cycle 0);
}

pub charts_hold : ChartsHoldTheDay
charts_hold count direction hours k d below = direction_stands count direction hours (slice_index_or hours k d) (higher_at direction hours k d below)

net_stands : (count : ℕ) (hours : List Hour) (hour : Hour) → value_or_none (in_force_of IM hour) ≤ highest_force IM hours → value_or_none (in_force_of MI hour) ≤ highest_force MI hours
    → NetStands (net_frame count hours) hour
net_stands count hours hour im mi =
    let above = highest_force IM hours in
    let below = highest_force MI hours in
    record {
      upwards = stands count above below 6 (omega arith) (omega arith) hour.cycle hour.im.in_force 0 im (nothing hour.cycle below);
      downwards = stands count above below 6 (omega arith) (omega arith) hour.cycle 0 hour.mi.in_force (nothing hour.cycle above) mi;
      net = stands count above below 6 (omega arith) (omega arith) hour.cycle hour.im.in_force hour.mi.in_force im mi;
      zero = stands count above below 6 (omega arith) (omega arith) hour.cycle 0 0 (nothing hour.cycle above) (nothing hour.cycle below);
    }

pub net_holds : NetHoldsTheDay
net_holds count hours k d below = net_stands count hours (slice_index_or hours k d) (force_at IM hours k d below) (force_at MI hours k d below)

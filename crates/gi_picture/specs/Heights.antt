-- The highest values of a day, and the axes that hold them.
use Rattle.std.specs.Prelude.{◌≤◌, ℕ, List, [], ◌∷◌, max, if◌then◌else◌, All, IfSome, Option, Some, None}
use Rattle.gi_pairs.specs.declared.direction.Direction.{Direction}
use Rattle.gi_pairs.specs.declared.direction.Direction.TheVariants.{IM, MI}
use Rattle.gi_picture.specs.Frame.{frame, top}
use Rattle.gi_picture.specs.Lines.{place_of}
use Rattle.gi_picture.specs.Quantities.{in_force_of, nominated_of, peers_of, processed_of}
use Rattle.gi_picture.specs.Runs.{is_same}
use Rattle.gi_picture.specs.Scale.{scale}
use Rattle.gi_picture.specs.Values.{value_or_none}
use Rattle.gi_picture.specs.declared.frame.Frame.{Frame}
use Rattle.gi_picture.specs.declared.hour.Hour.{Hour}
use Rattle.gi_picture.specs.declared.line.Line.{Line}
use Rattle.gi_picture.specs.declared.line.Line.TheVariants.{Nominated, Processed, Peers, InForce, Upwards, Downwards, Net, Zero}
use Rattle.gi_picture.specs.declared.scale.Scale.{Scale}

-- The highest quantity of a direction in an hour. What is in force is never above what is processed, nor this above
-- what is nominated, so it is what is nominated or the peer's.
abbrev pub higher_of : Direction → Hour → ℕ
higher_of direction hour =
    max (max (value_or_none (nominated_of direction hour)) (value_or_none (processed_of direction hour)))
    (max (value_or_none (peers_of direction hour)) (value_or_none (in_force_of direction hour)))

abbrev pub highest : Direction → List Hour → ℕ
highest direction [] = 0
highest direction (hour ∷ hours) = max (higher_of direction hour) (highest direction hours)

-- the highest quantity in force
abbrev pub highest_force : Direction → List Hour → ℕ
highest_force direction [] = 0
highest_force direction (hour ∷ hours) = max (value_or_none (in_force_of direction hour)) (highest_force direction hours)

-- the first hour in which this is in force
abbrev pub first_with : Direction → ℕ → List Hour → Option ℕ
first_with direction amount [] = None
first_with direction amount (hour ∷ hours) = if is_same (in_force_of direction hour) (Some amount) then Some hour.number else first_with direction amount hours

-- a direction has an axis of its own, of 5 steps at most
abbrev pub direction_scale : Direction → List Hour → Scale
direction_scale direction hours = scale (highest direction hours) 0 5

-- the net has one for both directions, of 6
abbrev pub net_scale : List Hour → Scale
net_scale hours = scale (highest_force IM hours) (highest_force MI hours) 6

abbrev pub direction_frame : ℕ → Direction → List Hour → Frame
direction_frame count direction hours = frame count (direction_scale direction hours)

abbrev pub net_frame : ℕ → List Hour → Frame
net_frame count hours = frame count (net_scale hours)

-- ---- each line of a chart stands in its plot, in each hour

abbrev pub StandsIn : Frame → Line → Hour → Type 0
StandsIn frame line hour = IfSome (place_of frame line hour) (λ place. (top ≤ place) × (place ≤ frame.floor))

pub record DirectionStands (frame : Frame) (direction : Direction) (hour : Hour) : Type 0 where
  pub nominated : StandsIn frame (Nominated direction) hour
  pub processed : StandsIn frame (Processed direction) hour
  pub peers : StandsIn frame (Peers direction) hour
  pub in_force : StandsIn frame (InForce direction) hour

pub record NetStands (frame : Frame) (hour : Hour) : Type 0 where
  pub upwards : StandsIn frame Upwards hour
  pub downwards : StandsIn frame Downwards hour
  pub net : StandsIn frame Net hour
  pub zero : StandsIn frame Zero hour

abbrev pub ChartsHoldTheDay : Type 0
ChartsHoldTheDay = (count : ℕ) (direction : Direction) (hours : List Hour) → All (DirectionStands (direction_frame count direction hours) direction) hours

abbrev pub NetHoldsTheDay : Type 0
NetHoldsTheDay = (count : ℕ) (hours : List Hour) → All (NetStands (net_frame count hours)) hours

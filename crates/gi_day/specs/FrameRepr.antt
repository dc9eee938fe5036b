-- What a frame keeps.
use Rattle.std.specs.Prelude.{◌≡◌, ℕ, pos, ◌-ℤ◌, int_div, unsigned_abs}
use Rattle.std.proofs.Common.{sym}
use Rattle.jiff_core.specs.declared.civil.date.Date.{Date}
use Rattle.gi_day.specs.Cycles.{day_start, hour_count, first_cycle_start}
use Rattle.gi_day.specs.Day.{IsGasYear}
use Rattle.gi_day.specs.declared.day_frame.DayFrame.TheInside.{Inside}

-- how many hours before the day its first cycle starts
unfoldable pub lead_hours : Date → ℕ
lead_hours day = unsigned_abs (int_div (day_start day -ℤ first_cycle_start day) (pos 3600))

-- the numbers of the frame are those of its day
pub record IsFrame (f : Inside) : Type 0 where
  pub year : IsGasYear f.day.year
  pub first_cycle : f.first_cycle ≡ first_cycle_start f.day
  pub lead : f.lead ≡ lead_hours f.day
  pub hours : f.hours ≡ hour_count f.day

-- the frame that these numbers give
abbrev pub frame_of : Date → Inside
frame_of d = record { day = d; first_cycle = first_cycle_start d; lead = lead_hours d; hours = hour_count d }

-- which is the frame itself
pub same_frame : (f : Inside) → IsFrame f → frame_of f.day ≡ f
same_frame f h = λ i. record { day = f.day; first_cycle = sym h.first_cycle i; lead = sym h.lead i; hours = sym h.hours i }

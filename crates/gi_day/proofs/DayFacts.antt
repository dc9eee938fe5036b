-- The numbers of a gas day and its cycles, from the instants of the definitions.
use Rattle.std.proofs.Common.{◌≡◌, ℕ, ◌+◌, ◌-◌, ◌*◌, ◌⊎◌, inl, inr, Bool, true, false, ℤ, pos, ◌+ℤ◌, ◌-ℤ◌, ◌*ℤ◌, int_div, unsigned_abs, arith, refl}
use Rattle.std.specs.Int.{IsInRange}
use Rattle.jiff_core.proofs.SignedLemmas.{signed_arith}
use Rattle.jiff_core.specs.Date.{epoch_day}
use Rattle.jiff_tz.specs.Year.{year_of_day}
use Rattle.jiff_core.specs.declared.civil.date.Date.{Date}
use Rattle.gi_day.specs.Zone.{civil_hour, clock_offset, instant_at, is_summer}
use Rattle.gi_day.specs.Cycles.{day_start, day_end, first_cycle_start, hour_count, cycle_count}
use Rattle.gi_day.specs.FrameRepr.{lead_hours}

-- the clock is one or two hours ahead of UTC
pub record Ahead (day : ℤ) (hour : ℕ) : Type 0 where
  pub hours : ℕ
  pub hours_in : IsInRange 1 2 hours
  pub is : instant_at day hour +ℤ pos (hours * 3600) ≡ day *ℤ pos 86400 +ℤ pos (hour * 3600)

offset_is : (b : Bool) (year civil : ℤ) → is_summer year civil ≡ b → (clock_offset year civil ≡ pos 7200) ⊎ (clock_offset year civil ≡ pos 3600)
unfolding clock_offset
offset_is true year civil e = inl (rw e refl)
offset_is false year civil e = inr (rw e refl)

pub ahead : (day : ℤ) (hour : ℕ) → Ahead day hour
unfolding instant_at civil_hour
ahead day hour =
    let civil = civil_hour day hour in
    elim (offset_is _ (year_of_day day) civil refl) [
      | inl summer ↦ record { hours = 2; hours_in = omega arith; is = omega (arith, signed_arith, summer) }
      | inr winter ↦ record { hours = 1; hours_in = omega arith; is = omega (arith, signed_arith, winter) }
    ]

-- a gas day has 23 to 25 hours, and its first cycle starts 15 to 17 hours before it
pub record DayFacts (day : Date) : Type 0 where
  pub hours_in : IsInRange 23 25 (hour_count day)
  pub lead_in : IsInRange 15 17 (lead_hours day)
  pub end_is : day_end day ≡ day_start day +ℤ pos (hour_count day * 3600)
  pub start_is : day_start day ≡ first_cycle_start day +ℤ pos (lead_hours day * 3600)
  pub count_is : cycle_count day + 4 ≡ lead_hours day + hour_count day
  pub count_in : IsInRange 35 37 (cycle_count day)

-- a difference of whole hours
hours_of : (a b : ℤ) (n : ℕ) → b ≡ a +ℤ pos (n * 3600) → unsigned_abs (int_div (b -ℤ a) (pos 3600)) ≡ n
hours_of a b n e =
    let same : b -ℤ a ≡ pos (n * 3600) = omega (arith, signed_arith) in
    rw same (omega arith)

pub day_facts : (day : Date) → DayFacts day
unfolding hour_count lead_hours cycle_count day_start day_end first_cycle_start
day_facts day =
    let d = epoch_day day in
    let before = ahead (d -ℤ pos 1) 14 in
    let here = ahead d 6 in
    let after = ahead (d +ℤ pos 1) 6 in
    let hours : ℕ = 24 + here.hours - after.hours in
    let lead : ℕ = 16 + before.hours - here.hours in
    let end_is : day_end day ≡ day_start day +ℤ pos (hours * 3600) = omega (arith, signed_arith, before.hours_in, here.hours_in, after.hours_in, here.is, after.is) in
    let start_is : day_start day ≡ first_cycle_start day +ℤ pos (lead * 3600) = omega (arith, signed_arith, before.hours_in, here.hours_in, here.is, before.is) in
    let whole : day_end day ≡ first_cycle_start day +ℤ pos ((lead + hours) * 3600) = omega (arith, signed_arith) in
    let h : hour_count day ≡ hours = hours_of (day_start day) (day_end day) hours end_is in
    let l : lead_hours day ≡ lead = hours_of (first_cycle_start day) (day_start day) lead start_is in
    let c = hours_of (first_cycle_start day) (day_end day) (lead + hours) whole in
    record {
      hours_in = rw h (omega (arith, here.hours_in, after.hours_in));
      lead_in = rw l (omega (arith, here.hours_in, before.hours_in));
      end_is = rw h end_is;
      start_is = rw l start_is;
      count_is = rw (h, l, c) (omega (arith, here.hours_in, after.hours_in, before.hours_in));
      count_in = rw c (omega (arith, here.hours_in, after.hours_in, before.hours_in));
    }

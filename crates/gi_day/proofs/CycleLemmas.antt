-- Which cycles a day has, when they start and what they cover.
use Rattle.std.proofs.Common.{◌≡◌, ℕ, zero, suc, ◌+◌, ◌-◌, ◌*◌, ◌<◌, ◌≤◌, ◌↔◌, ◌⊎◌, inl, inr, ℤ, pos, neg_ℤ, ◌+ℤ◌, Option, ◌-ℤ◌, arith, refl}
use Rattle.std.proofs.lemmas.Bool.Decides.{leb_tells, nat_tests}
use Rattle.std.proofs.lemmas.Int.{ints}
use Rattle.std.specs.Int.{IsInRange}
use Rattle.jiff_core.proofs.SignedLemmas.{signed_arith}
use Rattle.jiff_core.specs.declared.civil.date.Date.{Date}
use Rattle.gi_day.specs.Cycles.{day_start, first_cycle_start, cycle_start, wait_hours, hour_count, cycle_count, hour_start, first_hour, IsCycle, IsCovered, IsDue, IsOpen}
use Rattle.gi_day.specs.FrameRepr.{IsFrame, lead_hours}
use Rattle.gi_day.specs.declared.day_frame.DayFrame.TheInside.{Inside}
use Rattle.gi_day.proofs.DayFacts.{DayFacts, day_facts}

-- the numbers of a day's frame
pub record Numbers (f : Inside) (day : Date) : Type 0 where
  pub first_cycle : f.first_cycle ≡ first_cycle_start day
  pub hours : f.hours ≡ hour_count day
  pub lead : f.lead ≡ lead_hours day
  pub count : f.lead + f.hours ≡ cycle_count day + 4
  pub facts : DayFacts day

pub numbers : (f : Inside) (day : Date) → IsFrame f → f.day ≡ day → Numbers f day
numbers f day h is =
    let facts = day_facts day in
    let hours : f.hours ≡ hour_count day = rw (← is) h.hours in
    let lead : f.lead ≡ lead_hours day = rw (← is) h.lead in
    record {
      first_cycle = rw (← is) h.first_cycle;
      hours = hours;
      lead = lead;
      count = omega (arith, hours, lead, facts.count_is);
      facts = facts;
    }

-- when a cycle starts
pub first_start : (day : Date) → cycle_start day 0 ≡ first_cycle_start day
unfolding cycle_start wait_hours
first_start day = omega (arith, signed_arith)

pub wait_is : (k : ℕ) → 1 ≤ k → wait_hours k ≡ k + 2
unfolding wait_hours
wait_is k h = grind (arith, nat_tests)

pub wait_small : (k : ℕ) → wait_hours k ≤ k + 2
unfolding wait_hours
wait_small k = grind (arith, nat_tests)

pub later_start : (day : Date) (k : ℕ) → 1 ≤ k → cycle_start day k ≡ first_cycle_start day +ℤ pos ((k + 2) * 3600)
unfolding cycle_start
later_start day k h = rw (wait_is k h) refl

-- the day has the cycles below the count, and no other
pub below_is_cycle : (day : Date) (k : ℕ) → k < cycle_count day → IsCycle day k
unfolding IsCycle
below_is_cycle day zero h =
    let f = day_facts day in
    omega (arith, signed_arith, first_start day, f.hours_in, f.lead_in, f.end_is, f.start_is)
below_is_cycle day (suc k) h =
    let f = day_facts day in
    omega (arith, signed_arith, later_start day (suc k) (omega arith), f.count_is, f.end_is, f.start_is)

pub cycle_is_below : (day : Date) (k : ℕ) → IsCycle day k → k < cycle_count day
unfolding IsCycle
cycle_is_below day zero h =
    let f = day_facts day in
    omega (arith, f.hours_in, f.lead_in, f.count_is)
cycle_is_below day (suc k) h =
    let f = day_facts day in
    omega (arith, signed_arith, later_start day (suc k) (omega arith), f.count_is, f.end_is, f.start_is, h)

-- when a cycle starts, in hours before and after the day's start
pub start_later : (day : Date) (k : ℕ) → 1 ≤ k → cycle_start day k +ℤ pos (lead_hours day * 3600) ≡ day_start day +ℤ pos ((k + 2) * 3600)
start_later day k h = omega (arith, signed_arith, later_start day k h, (day_facts day).start_is)

pub start_first : (day : Date) → cycle_start day 0 +ℤ pos (lead_hours day * 3600) ≡ day_start day
start_first day = omega (arith, signed_arith, first_start day, (day_facts day).start_is)

-- the first hour that a cycle covers, from its start in hours after the day's start
hour_of_early : (day : Date) (k n : ℕ) → cycle_start day k +ℤ pos 7200 +ℤ pos (suc n * 3600) ≡ day_start day → first_hour day k ≡ 1
unfolding first_hour
hour_of_early day k n e =
    let gap : cycle_start day k +ℤ pos 7200 -ℤ day_start day ≡ neg_ℤ (pos (suc n * 3600)) = omega (arith, signed_arith, e) in
    rw gap (grind (arith, ints, nat_tests))

hour_of_late : (day : Date) (k n : ℕ) → cycle_start day k +ℤ pos 7200 ≡ day_start day +ℤ pos (n * 3600) → first_hour day k ≡ n + 1
unfolding first_hour
hour_of_late day k n e =
    let gap : cycle_start day k +ℤ pos 7200 -ℤ day_start day ≡ pos (n * 3600) = omega (arith, signed_arith, e) in
    rw gap (grind (arith, ints, nat_tests))

pub first_early : (day : Date) (k : ℕ) → k + 4 < lead_hours day → first_hour day k ≡ 1
first_early day zero h =
    let f = day_facts day in
    hour_of_early day 0 (lead_hours day - 3) (omega (arith, signed_arith, start_first day, f.lead_in))
first_early day (suc k) h =
    hour_of_early day (suc k) (lead_hours day - k - 6) (omega (arith, signed_arith, start_later day (suc k) (omega arith)))

pub first_late : (day : Date) (k : ℕ) → lead_hours day ≤ k + 4 → first_hour day k ≡ k + 5 - lead_hours day
first_late day zero h = absurd (omega (arith, (day_facts day).lead_in))
first_late day (suc k) h =
    let n : ℕ = suc k + 4 - lead_hours day in
    let is = hour_of_late day (suc k) n (omega (arith, signed_arith, start_later day (suc k) (omega arith))) in
    omega (arith, is)

-- an hour is covered where it starts two hours after the cycle or later
covered_from : (day : Date) (k hour : ℕ) → 1 ≤ hour → (k + 4 < lead_hours day) ⊎ (lead_hours day ≤ k + 4)
    → (first_hour day k ≤ hour) ↔ IsCovered day k hour
unfolding IsCovered hour_start
covered_from day zero hour h _ =
    let f = day_facts day in
    let is = first_early day 0 (omega (arith, f.lead_in)) in
    let start = start_first day in
    (λ below. omega (arith, signed_arith, f.lead_in, start), λ late. omega (arith, is))
covered_from day (suc k) hour h (inl early) =
    let is = first_early day (suc k) early in
    let start = start_later day (suc k) (omega arith) in
    (λ below. omega (arith, signed_arith, start), λ late. omega (arith, is))
covered_from day (suc k) hour h (inr late) =
    let is = first_late day (suc k) late in
    let start = start_later day (suc k) (omega arith) in
    (λ below. omega (arith, signed_arith, start, is), λ at. omega (arith, signed_arith, start, is, at))

early_or_late : (a b : ℕ) → (a < b) ⊎ (b ≤ a)
early_or_late a b = elim (leb_tells b a) [
  | inl late ↦ inr late.1
  | inr early ↦ inl (omega (arith, early.1))
]

pub covered_is : (day : Date) (k hour : ℕ) → 1 ≤ hour → (first_hour day k ≤ hour) ↔ IsCovered day k hour
covered_is day k hour h = covered_from day k hour h (early_or_late (k + 4) (lead_hours day))

-- the first covered hour of a cycle is an hour of the day
pub first_within : (day : Date) (k : ℕ) → k < cycle_count day → IsInRange 1 (hour_count day) (first_hour day k)
first_within day k h =
    let f = day_facts day in
    elim (early_or_late (k + 4) (lead_hours day)) [
      | inl early ↦ rw (first_early day k early) (omega (arith, f.hours_in))
      | inr late ↦ rw (first_late day k late) (omega (arith, f.count_is, f.hours_in))
    ]

pub none_due : (day : Date) (moment : ℤ) (last : Option ℕ) → ((cycle : ℕ) → IsOpen last cycle → 255 < cycle)
    → (cycle : ℕ) → ¬ (IsDue day moment last cycle)
none_due day moment last above cycle due =
    let high = above cycle due.is_least.0 in
    let below = cycle_is_below day cycle due.is_cycle in
    omega (arith, high, below, (day_facts day).count_in)

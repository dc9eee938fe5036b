-- The gas day in which a moment lies, and the gas days beside it.
use Rattle.std.specs.Prelude.{◌≡◌, ◌⊎◌, ℕ, zero, suc, ℤ, pos, ◌+ℤ◌, ◌-ℤ◌, ◌≤ℤ◌, ◌<ℤ◌, List, [], ◌∷◌}
use Rattle.jiff_core.specs.Date.{epoch_day}
use Rattle.jiff_core.specs.declared.civil.date.Date.{Date}
use Rattle.gi_day.specs.Day.{IsGasYear}
use Rattle.gi_day.specs.Zone.{instant_at}

-- The gas day of this day number has begun at the moment, and the next one has not: a gas day begins at 06:00 of its date.
pub record IsDayAt (moment number : ℤ) : Type 0 where
  pub begun : instant_at number 6 ≤ℤ moment
  pub lasts : moment <ℤ instant_at (number +ℤ pos 1) 6

-- the gas day of this day number
pub record IsDayOf (number : ℤ) (day : Date) : Type 0 where
  pub year : IsGasYear day.year
  pub is : epoch_day day ≡ number

-- the gas days of so many day numbers from one on, in order
abbrev pub AreDaysFrom : ℤ → ℕ → List Date → Type 0
AreDaysFrom number zero days = days ≡ []
AreDaysFrom number (suc more) days =
    ((day : Date) × (later : List Date) × IsDayOf number day × (days ≡ day ∷ later) × AreDaysFrom (number +ℤ pos 1) more later)
    ⊎ (((day : Date) → ¬ IsDayOf number day) × AreDaysFrom (number +ℤ pos 1) more days)

-- The gas days that are looked at for what is due: from the one before that of the moment to two after it. Cycle 0 of a day starts on the day
-- before it; a cycle of an older day is not looked at, whether it is closed or not.
pub record AreNear (moment : ℤ) (days : List Date) : Type 0 where
  pub today : ℤ
  pub is : IsDayAt moment today
  pub near : AreDaysFrom (today -ℤ pos 1) 4 days

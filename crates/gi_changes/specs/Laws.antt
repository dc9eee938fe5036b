-- What holds of all changes.
use Rattle.std.specs.Prelude.{◌≡◌, ◌<◌, ℕ, ℤ, pos, ◌+ℤ◌, List, [], ◌∷◌, All, Bool, true, false, ◌&&◌, nat_eq, if◌then◌else◌, Option}
use Rattle.std.specs.Ordering.{is_eq}
use Rattle.jiff_core.specs.declared.civil.date.Date.{Date}
use Rattle.gi_pairs.specs.Key.{key_cmp}
use Rattle.gi_pairs.specs.declared.cycle_id.CycleId.{CycleId}
use Rattle.gi_pairs.specs.declared.key.Key.{Key}
use Rattle.gi_pairs.specs.declared.side.Side.{Side}
use Rattle.gi_desk.specs.Machine.{DeskState}
use Rattle.gi_desk.specs.Queries.{confirmed}
use Rattle.gi_schedule.specs.InForce.{Confirmed, cycle_in_force, cycle_of, hours_in_force, is_covered, quantity_in, quantity_of}
use Rattle.gi_schedule.specs.Wanted.{wants_pair}
use Rattle.gi_changes.specs.Changes.{changes, quantity_before, quantity_if}
use Rattle.gi_changes.specs.declared.change_line.ChangeLine.{ChangeLine}

-- the line is for the pair, the direction and the hour
abbrev pub is_of : Key → ℕ → ChangeLine → Bool
is_of key hour line = is_eq (key_cmp (record { pair = line.pair; direction = line.direction }) key) && nat_eq line.hour hour

abbrev pub change_at : Key → ℕ → ChangeLine → ℤ
change_at key hour line = if is_of key hour line then line.change else pos 0

-- how much all lines together change for a pair and a direction in an hour
unfoldable pub sum_at : Key → ℕ → List ChangeLine → ℤ
sum_at key hour [] = pos 0
sum_at key hour (line ∷ lines) = change_at key hour line +ℤ sum_at key hour lines

-- For each pair that is wanted, all changes together are what the cycle in force has in the end, and 0 where none is.
abbrev pub AddUp : Type 0
AddUp =
    (c : Confirmed) (portfolio : Option (List ℕ)) (day : Date) (key : Key) (hour : ℕ) → wants_pair portfolio key.pair ≡ true
    → sum_at key hour (changes c portfolio day) ≡ pos (quantity_if c day key hour (cycle_in_force c day hour))

-- So they are what the schedule has in each hour that it lists.
abbrev pub AddUpToSchedule : Type 0
AddUpToSchedule =
    (c : Confirmed) (portfolio : Option (List ℕ)) (day : Date) (key : Key) → wants_pair portfolio key.pair ≡ true
    → All (λ at. sum_at key at.hour (changes c portfolio day) ≡ pos (quantity_of c day key at)) (hours_in_force c day)

-- What is in force before a cycle is what the one before it that covers the hour has, and 0 where none does.
abbrev pub BeginAfter : Type 0
BeginAfter =
    (c : Confirmed) (day : Date) (key : Key) (hour cycle later : ℕ) → cycle < later → is_covered c day hour cycle ≡ true
    → ((between : ℕ) → cycle < between → between < later → is_covered c day hour between ≡ false)
    → quantity_before c day key hour later ≡ quantity_in key hour (c (cycle_of day cycle))

abbrev pub BeginFromNothing : Type 0
BeginFromNothing =
    (c : Confirmed) (day : Date) (key : Key) (hour first : ℕ) → ((earlier : ℕ) → earlier < first → is_covered c day hour earlier ≡ false)
    → quantity_before c day key hour first ≡ 0

-- Two sides that have confirmed the same have the same changes.
abbrev pub ShareChanges : Type 0
ShareChanges =
    (side other : Side) (s t : DeskState) (portfolio : Option (List ℕ)) (day : Date) → ((id : CycleId) → confirmed side s id ≡ confirmed other t id)
    → changes (confirmed side s) portfolio day ≡ changes (confirmed other t) portfolio day

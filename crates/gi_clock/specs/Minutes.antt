-- The line that the clock gives of a minute.
use Rattle.std.specs.Prelude.{◌≡◌, ◌*◌, ◌≤◌, ◌<◌, ℕ, ◌∷◌, ◌++◌, [], List, pos, codes, ◌≢◌, ◌⊎◌, Some, Option}
use Rattle.gi_moments.specs.Moment.{IsMomentText}
use Rattle.gi_text.specs.Lines.{line_feed}
use Rattle.gi_clock.specs.declared.events.Event.{Event}
use Rattle.gi_clock.specs.declared.events.Event.TheVariants as event

-- a minute, counted from 1970-01-01T00:00Z, of the years from 2000 to 2199
abbrev pub IsMinute : ℕ → Type 0
IsMinute minute = (15_778_080 ≤ minute) × (minute < 120_968_640)

-- The line of a minute: `due`, and the text of the moment at which it begins.
pub record IsMinuteLine (minute : ℕ) (line : List ℕ) : Type 0 where
  pub text : List ℕ
  pub is_moment : IsMomentText text (pos (60 * minute))
  pub written : line ≡ codes "due " ++ (text ++ line_feed ∷ [])

-- the line of a minute is given where it is another one than the last that was given
pub record GivesLine (minute : ℕ) (old : Option ℕ) (line : List ℕ) (new : Option ℕ) : Type 0 where
  pub another : old ≢ Some minute
  pub within : IsMinute minute
  pub line_is : IsMinuteLine minute line
  pub last : new ≡ Some minute

-- at this minute of the clock, where it can be read, its line is given, or none where there is none to be given
abbrev pub GivesMinuteOf : Option ℕ → Option ℕ → List ℕ → Option ℕ → Type 0
GivesMinuteOf now old line new =
    ((minute : ℕ) × (now ≡ Some minute) × GivesLine minute old line new)
    ⊎ (((minute : ℕ) → now ≡ Some minute → old ≢ Some minute → ¬ IsMinute minute) × (line ≡ []) × (new ≡ old))

-- an event has these bytes of the input
abbrev pub HasBytes : Event → List ℕ → Type 0
HasBytes (event.Came line bytes) came = bytes.items ≡ came
HasBytes event.End came = ⊥

-- an event gives the line of a minute, or none
abbrev pub TellsMinute : Option ℕ → Event → Option ℕ → Type 0
TellsMinute old (event.Came line bytes) new = ((minute : ℕ) × GivesLine minute old line.items new) ⊎ ((line.items ≡ []) × (new ≡ old))
TellsMinute old event.End new = new ≡ old

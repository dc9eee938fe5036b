-- The longest runs of hours that have the same value.
use Rattle.std.specs.Prelude.{◌≡◌, ◌<◌, ⊤, ℕ, ◌+◌, ◌-◌, List, [], ◌∷◌, Bool, true, false, nat_eq, if◌then◌else◌, replicate, Option, Some, None}
use Rattle.std.specs.List.{flat_map}
use Rattle.gi_picture.specs.declared.run.Run.{Run}

abbrev pub is_same : Option ℕ → Option ℕ → Bool
is_same None None = true
is_same None (Some b) = false
is_same (Some a) None = false
is_same (Some a) (Some b) = nat_eq a b

-- the first hour of a day
abbrev pub run_of_one : Option ℕ → Run
run_of_one value = record { value = value; previous = None; before = 0; behind = 1 }

-- a run with one hour more
abbrev pub longer : Run → Run
longer run = record { value = run.value; previous = run.previous; before = run.before; behind = run.behind + 1 }

-- the first hour behind a run
abbrev pub next : Run → Option ℕ → Run
next run value = record { value = value; previous = run.value; before = run.behind; behind = run.behind + 1 }

-- a run so far and the values behind it
unfoldable pub runs_from : Run → List (Option ℕ) → List Run
runs_from run [] = run ∷ []
runs_from run (value ∷ values) = if is_same run.value value then runs_from (longer run) values else run ∷ runs_from (next run value) values

-- the runs of the values of a day
unfoldable pub runs : List (Option ℕ) → List Run
runs [] = []
runs (value ∷ values) = runs_from (run_of_one value) values

-- the hours of a run, each with its value
abbrev pub hours_of : Run → List (Option ℕ)
hours_of run = replicate (run.behind - run.before) run.value

-- The runs of a day are its hours: no value is left out, and none is added.
abbrev pub RunsAreTheHours : Type 0
RunsAreTheHours = (values : List (Option ℕ)) → flat_map hours_of (runs values) ≡ values

-- the first run of a day: it begins at the bound 0, and no value is before it
pub record IsFirst (run : Run) : Type 0 where
  pub before : run.before ≡ 0
  pub some : run.before < run.behind
  pub previous : run.previous ≡ None

-- one run behind another: it begins where that ends, tells the value of that, and has another one
pub record IsBehind (run after : Run) : Type 0 where
  pub before : after.before ≡ run.behind
  pub some : after.before < after.behind
  pub previous : after.previous ≡ run.value
  pub other : is_same run.value after.value ≡ false

abbrev pub AreInTurn : Run → List Run → Type 0
AreInTurn run [] = ⊤
AreInTurn run (after ∷ runs) = IsBehind run after × AreInTurn after runs

abbrev pub AreLongest : List Run → Type 0
AreLongest [] = ⊤
AreLongest (run ∷ runs) = IsFirst run × AreInTurn run runs

-- The runs of a day are the longest: each begins where the one before it ends, and has another value.
abbrev pub RunsAreLongest : Type 0
RunsAreLongest = (values : List (Option ℕ)) → AreLongest (runs values)

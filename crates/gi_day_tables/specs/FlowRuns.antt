-- The longest runs of hours of a row that show the same.
use Rattle.std.specs.Prelude.{◌≡◌, ⊤, ℕ, ◌+◌, List, [], ◌∷◌, Bool, false, nat_eq, ◌&&◌, if◌then◌else◌, map, replicate}
use Rattle.std.specs.List.{flat_map}
use Rattle.gi_picture.specs.Runs.{is_same}
use Rattle.gi_picture.specs.declared.hour.Amounts.{Amounts}
use Rattle.gi_day_tables.specs.declared.flow_hour.FlowHour.{FlowHour}
use Rattle.gi_day_tables.specs.declared.flow_run.FlowRun.{FlowRun}

abbrev pub same_amounts : Amounts → Amounts → Bool
same_amounts a b = nat_eq a.nominated b.nominated && (nat_eq a.processed b.processed && (nat_eq a.peers b.peers && nat_eq a.in_force b.in_force))

-- all but the number is the same
abbrev pub shows_same : FlowHour → FlowHour → Bool
shows_same a b = is_same a.shown b.shown && (is_same a.cycle b.cycle && same_amounts a.amounts b.amounts)

abbrev pub run_of_one : FlowHour → FlowRun
run_of_one hour = record { first = hour; hours = 1 }

-- a run with one hour more
abbrev pub longer : FlowRun → FlowRun
longer run = record { first = run.first; hours = run.hours + 1 }

-- a run so far and the hours behind it
unfoldable pub flow_runs_from : FlowRun → List FlowHour → List FlowRun
flow_runs_from run [] = run ∷ []
flow_runs_from run (hour ∷ hours) = if shows_same run.first hour then flow_runs_from (longer run) hours else run ∷ flow_runs_from (run_of_one hour) hours

-- the runs of the hours of a row
unfoldable pub flow_runs : List FlowHour → List FlowRun
flow_runs [] = []
flow_runs (hour ∷ hours) = flow_runs_from (run_of_one hour) hours

-- what an hour shows beside its number
abbrev pub shows : FlowHour → FlowHour
shows hour = record { number = 0; shown = hour.shown; cycle = hour.cycle; amounts = hour.amounts }

-- the hours of a run, each with what it shows
abbrev pub shown_by : FlowRun → List FlowHour
shown_by run = replicate run.hours (shows run.first)

-- The merged runs of a row are its hours: no hour is left out or added, and none shows anything else.
abbrev pub FlowRunsAreTheHours : Type 0
FlowRunsAreTheHours = (hours : List FlowHour) → flat_map shown_by (flow_runs hours) ≡ map shows hours

-- hours numbered one after the other
abbrev pub AreNumbered : ℕ → List FlowHour → Type 0
AreNumbered number [] = ⊤
AreNumbered number (hour ∷ hours) = (hour.number ≡ number) × AreNumbered (number + 1) hours

-- one run behind another: it begins with the hour behind that, and shows something else
pub record IsBehind (run after : FlowRun) : Type 0 where
  pub number : after.first.number ≡ run.first.number + run.hours
  pub other : shows_same run.first after.first ≡ false

abbrev pub AreInTurn : FlowRun → List FlowRun → Type 0
AreInTurn run [] = ⊤
AreInTurn run (after ∷ runs) = IsBehind run after × AreInTurn after runs

abbrev pub AreLongest : ℕ → List FlowRun → Type 0
AreLongest number [] = ⊤
AreLongest number (run ∷ runs) = (run.first.number ≡ number) × AreInTurn run runs

-- The runs of a row are the longest: each begins with the hour behind the one before it, and shows something else.
abbrev pub FlowRunsAreLongest : Type 0
FlowRunsAreLongest = (number : ℕ) (hours : List FlowHour) → AreNumbered number hours → AreLongest number (flow_runs hours)

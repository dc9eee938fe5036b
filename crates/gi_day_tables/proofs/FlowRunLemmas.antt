-- The runs of a row's hours.
use Rattle.std.proofs.Common.{◌≡◌, ◌<◌, ◌≤◌, ◌+◌, ◌∙◌, ℕ, List, [], ◌∷◌, ◌++◌, true, false, sym, ap, add-one, append_assoc, length, drop, get_or, drop-cons}
use Rattle.std.specs.Prelude.{if◌then◌else◌}
use Rattle.std.proofs.Math.ListN.{drop_of_length-le}
use Rattle.gi_day_tables.specs.FlowRuns.{flow_runs, flow_runs_from, longer, run_of_one, shows_same}
use Rattle.gi_day_tables.specs.declared.flow_hour.FlowHour.{FlowHour}
use Rattle.gi_day_tables.specs.declared.flow_run.FlowRun.{FlowRun}

-- an hour that shows the same goes on
goes_on : (found : List FlowRun) (run : FlowRun) (hour : FlowHour) (hours : List FlowHour) (all : List FlowRun) → shows_same run.first hour ≡ true
    → found ++ flow_runs_from run (hour ∷ hours) ≡ all → found ++ flow_runs_from (longer run) hours ≡ all
unfolding flow_runs_from
goes_on found run hour hours all same is =
    sym (ap (λ b. found ++ (if b then flow_runs_from (longer run) hours else run ∷ flow_runs_from (run_of_one hour) hours)) same) ∙ is

-- another begins
begins : (found : List FlowRun) (run : FlowRun) (hour : FlowHour) (hours : List FlowHour) (all : List FlowRun) → shows_same run.first hour ≡ false
    → found ++ flow_runs_from run (hour ∷ hours) ≡ all → (found ++ run ∷ []) ++ flow_runs_from (run_of_one hour) hours ≡ all
unfolding flow_runs_from
begins found run hour hours all other is =
    append_assoc found (run ∷ []) (flow_runs_from (run_of_one hour) hours)
    ∙ sym (ap (λ b. found ++ (if b then flow_runs_from (longer run) hours else run ∷ flow_runs_from (run_of_one hour) hours)) other) ∙ is

-- what is left of the hours from one on
left_from : (hours : List FlowHour) (i : ℕ) (d : FlowHour) → i < length hours → drop i hours ≡ get_or hours i d ∷ drop (i + 1) hours
left_from hours i d below = drop-cons hours i d below ∙ ap (λ j. get_or hours i d ∷ drop j hours) (sym (add-one i))

pub same_next : (found new : List FlowRun) (run after : FlowRun) (hours : List FlowHour) (i : ℕ) (d : FlowHour) (all : List FlowRun) → i < length hours
    → shows_same run.first (get_or hours i d) ≡ true → new ≡ found → after ≡ longer run → found ++ flow_runs_from run (drop i hours) ≡ all
    → new ++ flow_runs_from after (drop (i + 1) hours) ≡ all
same_next found new run after hours i d all below same new_is after_is rest =
    (λ t. new_is t ++ flow_runs_from (after_is t) (drop (i + 1) hours))
    ∙ goes_on found run (get_or hours i d) (drop (i + 1) hours) all same (sym (ap (λ l. found ++ flow_runs_from run l) (left_from hours i d below)) ∙ rest)

pub other_next : (found new : List FlowRun) (run after : FlowRun) (hours : List FlowHour) (i : ℕ) (d : FlowHour) (all : List FlowRun) → i < length hours
    → shows_same run.first (get_or hours i d) ≡ false → new ≡ found ++ run ∷ [] → after ≡ run_of_one (get_or hours i d) → found ++ flow_runs_from run (drop i hours) ≡ all
    → new ++ flow_runs_from after (drop (i + 1) hours) ≡ all
other_next found new run after hours i d all below other new_is after_is rest =
    (λ t. new_is t ++ flow_runs_from (after_is t) (drop (i + 1) hours))
    ∙ begins found run (get_or hours i d) (drop (i + 1) hours) all other (sym (ap (λ l. found ++ flow_runs_from run l) (left_from hours i d below)) ∙ rest)

-- all hours are read
pub all_read : (found new : List FlowRun) (first : FlowHour) (run start : FlowRun) (hours whole : List FlowHour) (i : ℕ) → length hours ≤ i
    → new ≡ found ++ run ∷ [] → start ≡ run_of_one first → whole ≡ first ∷ hours → found ++ flow_runs_from run (drop i hours) ≡ flow_runs_from start hours → new ≡ flow_runs whole
unfolding flow_runs_from flow_runs
all_read found new first run start hours whole i past new_is start_is whole_is rest =
    new_is ∙ sym (ap (λ l. found ++ flow_runs_from run l) (drop_of_length-le hours past)) ∙ rest ∙ ap (λ r. flow_runs_from r hours) start_is ∙ sym (ap flow_runs whole_is)

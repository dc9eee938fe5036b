-- What holds of all tables.
use Rattle.std.proofs.Common.{◌≡◌, ◌<◌, ◌≤◌, ◌+◌, ◌*◌, ◌-◌, ◌∙◌, ℕ, suc, List, [], ◌∷◌, ◌++◌, Bool, true, false, refl, sym, ap, arith, append_assoc, codes, drop, length, map, subst, take}
use Rattle.std.specs.Prelude.{◌&&◌, is_some, nat_eq, nat_le, if◌then◌else◌, Option, Some, None, ⊤}
use Rattle.std.specs.List.{flat_map, list_any, sum_by}
use Rattle.std.proofs.lemmas.Bool.Decides.{nat_tests}
use Rattle.std.proofs.lemmas.List.{length-drop, replicate_more}
use Rattle.std.proofs.lemmas.List.Sums.{sum_by-cons, sum_by-take-drop}
use Rattle.gi_picture.specs.Runs.{is_same}
use Rattle.gi_picture.specs.Values.{total, value_or_none}
use Rattle.gi_picture.specs.declared.hour.Amounts.{Amounts}
use Rattle.gi_day_tables.specs.Columns.{column_of, values_of}
use Rattle.gi_day_tables.specs.CutLines.{cut_by, cut_if, cut_runs}
use Rattle.gi_day_tables.specs.Cuts.{fitting, rest_sum, shown_groups}
use Rattle.gi_day_tables.specs.FlowRuns.{AreInTurn, AreLongest, AreNumbered, FlowRunsAreLongest, FlowRunsAreTheHours, flow_runs, flow_runs_from, longer, run_of_one, same_amounts, shown_by, shows, shows_same}
use Rattle.gi_day_tables.specs.Laws.{AreCut, CountsEachGroup, LinesTellAll, NamesCutters, ShowsAllAsDrawn, ShowsGroups, SumsEachGroup, SumsWhatIsShown, TellsCut, TellsCuts, line_sum, lines_of}
use Rattle.gi_day_tables.specs.declared.column.Column.{Column}
use Rattle.gi_day_tables.specs.declared.column.Column.TheVariants.{Cut}
use Rattle.gi_day_tables.specs.declared.flow_hour.FlowHour.{FlowHour}
use Rattle.gi_day_tables.specs.declared.flow_run.FlowRun.{FlowRun}
use Rattle.gi_day_tables.specs.declared.row_cut.RowCut.{RowCut}

-- ---- sums

-- where no value is there the sum is 0
none_is_zero : (values : List (Option ℕ)) → list_any is_some values ≡ false → sum_by value_or_none values ≡ 0
none_is_zero [] none = refl
none_is_zero (None ∷ values) none =
    let step = sum_by-cons value_or_none None values in let rest = none_is_zero values none in omega (arith, step, rest)
none_is_zero (Some value ∷ values) none = grind (arith, nat_tests, none)

sum_of_any : (values : List (Option ℕ)) (b : Bool) → list_any is_some values ≡ b → value_or_none (if b then Some (total values) else None) ≡ sum_by value_or_none values
unfolding total
sum_of_any values true any = refl
sum_of_any values false any = sym (none_is_zero values any)

sum_of_map : (column : Column) (hours : List FlowHour) → sum_by value_or_none (values_of column hours) ≡ sum_by (λ hour. value_or_none (column_of column hour)) hours
sum_of_map column [] = refl
sum_of_map column (hour ∷ hours) =
    sum_by-cons value_or_none (column_of column hour) (values_of column hours) ∙ ap (λ n. value_or_none (column_of column hour) + n) (sum_of_map column hours)
    ∙ sym (sum_by-cons (λ hour. value_or_none (column_of column hour)) hour hours)

pub sums_what_is_shown : SumsWhatIsShown
sums_what_is_shown column hours = sum_of_any (values_of column hours) (list_any is_some (values_of column hours)) refl ∙ sum_of_map column hours

-- ---- cuts

tells_parts : (cycle : Option ℕ) (hour : FlowHour) → hour.cycle ≡ cycle → AreCut hour.amounts → TellsCut hour
tells_parts None hour is cut = record { cut = refl; parts = grind (arith, is) }
tells_parts (Some cycle) hour is cut =
    record { cut = refl; parts = grind (arith, is, cut.in_force, cut.processed) }

pub tells_cuts : TellsCuts
tells_cuts hour cut = tells_parts hour.cycle hour refl cut

named_own : (amounts : Amounts) → nat_eq amounts.processed amounts.in_force ≡ true → cut_by amounts ≡ codes "own"
named_own amounts same = ap (λ b. if b then codes "own" else if nat_eq amounts.processed amounts.nominated then codes "peer" else codes "both") same

named_after : (amounts : Amounts) (b : Bool) → nat_eq amounts.processed amounts.in_force ≡ false → nat_eq amounts.processed amounts.nominated ≡ b
    → cut_by amounts ≡ (if b then codes "peer" else codes "both")
named_after amounts b other is =
    ap (λ b. if b then codes "own" else if nat_eq amounts.processed amounts.nominated then codes "peer" else codes "both") other
    ∙ ap (λ b. if b then codes "peer" else codes "both") is

pub names_cutters : NamesCutters
names_cutters amounts cut =
    record {
      own = λ none. named_own amounts (grind (arith, nat_tests, cut.in_force, none));
      peer = λ none some. named_after amounts true (grind (arith, nat_tests, some)) (grind (arith, nat_tests, cut.processed, none));
      both = λ one other. named_after amounts false (grind (arith, nat_tests, other)) (grind (arith, nat_tests, one));
    }

-- ---- tables and charts

pub shows_all_as_drawn : ShowsAllAsDrawn
shows_all_as_drawn direction hour = record { nominated = refl; processed = refl; peers = refl; in_force = refl }

-- ---- runs

same_option : (a b : Option ℕ) → is_same a b ≡ true → a ≡ b
same_option None None same = refl
same_option None (Some b) same = grind (arith, nat_tests, same)
same_option (Some a) None same = grind (arith, nat_tests, same)
same_option (Some a) (Some b) same = let eq : a ≡ b = grind (arith, nat_tests, same) in ap (λ (n : ℕ). Some n) eq

left : (a b : Bool) → (a && b) ≡ true → a ≡ true
left true b both = refl
left false b both = both

right : (a b : Bool) → (a && b) ≡ true → b ≡ true
right true b both = both
right false true both = refl
right false false both = both

same_number : (a b : ℕ) → nat_eq a b ≡ true → a ≡ b
same_number a b same = grind (arith, nat_tests, same)

amounts_same : (a b : Amounts) → same_amounts a b ≡ true → a ≡ b
amounts_same a b same =
    let n = nat_eq a.nominated b.nominated in
    let p = nat_eq a.processed b.processed in
    let q = nat_eq a.peers b.peers in
    let c = nat_eq a.in_force b.in_force in
    let first = right n (p && (q && c)) same in
    let second = right p (q && c) first in
    let n_is = same_number a.nominated b.nominated (left n (p && (q && c)) same) in
    let p_is = same_number a.processed b.processed (left p (q && c) first) in
    let q_is = same_number a.peers b.peers (left q c second) in
    let c_is = same_number a.in_force b.in_force (right q c second) in
    λ t. record { nominated = n_is t; processed = p_is t; peers = q_is t; in_force = c_is t }

shows_is : (a b : FlowHour) → shows_same a b ≡ true → shows a ≡ shows b
shows_is a b same =
    let s = is_same a.shown b.shown in
    let k = is_same a.cycle b.cycle in
    let m = same_amounts a.amounts b.amounts in
    let rest = right s (k && m) same in
    let shown_is = same_option a.shown b.shown (left s (k && m) same) in
    let cycle_is = same_option a.cycle b.cycle (left k m rest) in
    let amounts_is = amounts_same a.amounts b.amounts (right k m rest) in
    λ t. record { number = 0; shown = shown_is t; cycle = cycle_is t; amounts = amounts_is t }

one_more : (run : FlowRun) → shown_by (longer run) ≡ shown_by run ++ shows run.first ∷ []
one_more run = sym (replicate_more run.hours (shows run.first))

go_on : (run : FlowRun) (hour : FlowHour) (hours : List FlowHour)
    → flat_map shown_by (flow_runs_from (longer run) hours) ≡ shown_by (longer run) ++ map shows hours
    → flat_map shown_by (flow_runs_from (run_of_one hour) hours) ≡ shown_by (run_of_one hour) ++ map shows hours
    → (b : Bool) → shows_same run.first hour ≡ b
    → flat_map shown_by (if b then flow_runs_from (longer run) hours else run ∷ flow_runs_from (run_of_one hour) hours) ≡ shown_by run ++ shows hour ∷ map shows hours
go_on run hour hours longer_is next_is true same =
    longer_is ∙ ap (λ l. l ++ map shows hours) (one_more run) ∙ append_assoc (shown_by run) (shows run.first ∷ []) (map shows hours)
    ∙ ap (λ v. shown_by run ++ v ∷ map shows hours) (shows_is run.first hour same)
go_on run hour hours longer_is next_is false same = ap (λ l. shown_by run ++ l) next_is

hours_from : (hours : List FlowHour) (run : FlowRun) → flat_map shown_by (flow_runs_from run hours) ≡ shown_by run ++ map shows hours
unfolding flow_runs_from
hours_from [] run = refl
hours_from (hour ∷ hours) run = go_on run hour hours (hours_from hours (longer run)) (hours_from hours (run_of_one hour)) (shows_same run.first hour) refl

pub flow_runs_are_the_hours : FlowRunsAreTheHours
unfolding flow_runs
flow_runs_are_the_hours [] = refl
flow_runs_are_the_hours (hour ∷ hours) = hours_from hours (run_of_one hour)

-- runs of which the first begins with this hour
abbrev Starts : FlowHour → List FlowRun → Type 0
Starts hour [] = ⊤
Starts hour (run ∷ runs) = (run.first ≡ hour) × AreInTurn run runs

turn : (runs : List FlowRun) (run : FlowRun) (hour : FlowHour) → hour.number ≡ run.first.number + run.hours → shows_same run.first hour ≡ false
    → Starts hour runs → AreInTurn run runs
turn [] run hour number other starts = tt
turn (after ∷ runs) run hour number other starts =
    (record { number = ap (λ h. h.number) starts.0 ∙ number; other = ap (shows_same run.first) starts.0 ∙ other }, starts.1)

start_if : (run : FlowRun) (hour : FlowHour) (hours : List FlowHour) → hour.number ≡ run.first.number + run.hours
    → Starts run.first (flow_runs_from (longer run) hours) → Starts hour (flow_runs_from (run_of_one hour) hours)
    → (b : Bool) → shows_same run.first hour ≡ b → Starts run.first (if b then flow_runs_from (longer run) hours else run ∷ flow_runs_from (run_of_one hour) hours)
start_if run hour hours number longer_starts next_starts true same = longer_starts
start_if run hour hours number longer_starts next_starts false other = (refl, turn (flow_runs_from (run_of_one hour) hours) run hour number other next_starts)

numbered_from : (n m : ℕ) (hours : List FlowHour) → n ≡ m → AreNumbered n hours → AreNumbered m hours
numbered_from n m hours is numbered = subst (λ k. AreNumbered k hours) is numbered

starts_from : (hours : List FlowHour) (run : FlowRun) → AreNumbered (run.first.number + run.hours) hours → Starts run.first (flow_runs_from run hours)
unfolding flow_runs_from
starts_from [] run numbered = (refl, tt)
starts_from (hour ∷ hours) run numbered =
    let is = numbered.0 in
    let more : run.first.number + run.hours + 1 ≡ run.first.number + (run.hours + 1) = omega arith in
    let after : run.first.number + run.hours + 1 ≡ hour.number + 1 = omega (arith, is) in
    start_if run hour hours is
    (starts_from hours (longer run) (numbered_from _ _ hours more numbered.1))
    (starts_from hours (run_of_one hour) (numbered_from _ _ hours after numbered.1))
    (shows_same run.first hour) refl

longest : (number : ℕ) (runs : List FlowRun) (hour : FlowHour) → hour.number ≡ number → Starts hour runs → AreLongest number runs
longest number [] hour is starts = tt
longest number (run ∷ runs) hour is starts = (ap (λ h. h.number) starts.0 ∙ is, starts.1)

pub flow_runs_are_longest : FlowRunsAreLongest
unfolding flow_runs
flow_runs_are_longest number [] numbered = tt
flow_runs_are_longest number (hour ∷ hours) numbered =
    let is = numbered.0 in
    let after : number + 1 ≡ hour.number + 1 = omega (arith, is) in
    longest number (flow_runs_from (run_of_one hour) hours) hour is (starts_from hours (run_of_one hour) (numbered_from _ _ hours after numbered.1))

-- ---- the lines of a group

same_cut : (a b : FlowHour) → shows_same a b ≡ true → value_or_none (column_of Cut a) ≡ value_or_none (column_of Cut b)
same_cut a b same = ap (λ h. value_or_none (column_of Cut h)) (shows_is a b same)

one_line_more : (run : FlowRun) → line_sum (longer run) ≡ line_sum run + value_or_none (column_of Cut run.first)
one_line_more run = grind arith

one_line : (hour : FlowHour) → line_sum (run_of_one hour) ≡ value_or_none (column_of Cut hour)
one_line hour = grind arith

lines_if : (run : FlowRun) (hour : FlowHour) (hours : List FlowHour)
    → sum_by line_sum (flow_runs_from (longer run) hours) ≡ line_sum (longer run) + sum_by value_or_none (values_of Cut hours)
    → sum_by line_sum (flow_runs_from (run_of_one hour) hours) ≡ line_sum (run_of_one hour) + sum_by value_or_none (values_of Cut hours)
    → (b : Bool) → shows_same run.first hour ≡ b
    → sum_by line_sum (if b then flow_runs_from (longer run) hours else run ∷ flow_runs_from (run_of_one hour) hours)
    ≡ line_sum run + (value_or_none (column_of Cut hour) + sum_by value_or_none (values_of Cut hours))
lines_if run hour hours longer_is next_is true same =
    let more = one_line_more run in let cut = same_cut run.first hour same in omega (arith, longer_is, more, cut)
lines_if run hour hours longer_is next_is false other =
    let step = sum_by-cons line_sum run (flow_runs_from (run_of_one hour) hours) in let one = one_line hour in omega (arith, step, next_is, one)

lines_from : (hours : List FlowHour) (run : FlowRun) → sum_by line_sum (flow_runs_from run hours) ≡ line_sum run + sum_by value_or_none (values_of Cut hours)
unfolding flow_runs_from
lines_from [] run = sum_by-cons line_sum run []
lines_from (hour ∷ hours) run =
    lines_if run hour hours (lines_from hours (longer run)) (lines_from hours (run_of_one hour)) (shows_same run.first hour) refl
    ∙ ap (λ n. line_sum run + n) (sym (sum_by-cons value_or_none (column_of Cut hour) (values_of Cut hours)))

all_lines : (hours : List FlowHour) → sum_by line_sum (flow_runs hours) ≡ sum_by value_or_none (values_of Cut hours)
unfolding flow_runs
all_lines [] = refl
all_lines (hour ∷ hours) =
    lines_from hours (run_of_one hour) ∙ ap (λ n. n + sum_by value_or_none (values_of Cut hours)) (one_line hour)
    ∙ sym (sum_by-cons value_or_none (column_of Cut hour) (values_of Cut hours))

no_line : (run : FlowRun) → value_or_none (column_of Cut run.first) ≡ 0 → line_sum run ≡ 0
no_line run none = let zero_is : run.hours * 0 ≡ 0 = omega arith in ap (λ n. run.hours * n) none ∙ zero_is

kept_if : (run : FlowRun) (runs : List FlowRun) (b : Bool) → nat_eq (value_or_none (column_of Cut run.first)) 0 ≡ b
    → sum_by line_sum ((if b then [] else run ∷ []) ++ runs) ≡ line_sum run + sum_by line_sum runs
kept_if run runs true none =
    let zero_is : value_or_none (column_of Cut run.first) ≡ 0 = grind (arith, nat_tests, none) in let no = no_line run zero_is in omega (arith, no)
kept_if run runs false some = sum_by-cons line_sum run runs

kept_lines : (runs : List FlowRun) → sum_by line_sum (flat_map cut_if runs) ≡ sum_by line_sum runs
kept_lines [] = refl
kept_lines (run ∷ runs) =
    kept_if run (flat_map cut_if runs) (nat_eq (value_or_none (column_of Cut run.first)) 0) refl ∙ ap (λ n. line_sum run + n) (kept_lines runs)
    ∙ sym (sum_by-cons line_sum run runs)

pub lines_tell_all : LinesTellAll
unfolding total
lines_tell_all hours = kept_lines (flow_runs hours) ∙ all_lines hours

-- ---- groups

fit_if : (b : Bool) (most few : ℕ) → few ≤ most → (if b then suc few else 0) ≤ suc most
fit_if true most few below = omega (arith, below)
fit_if false most few below = omega arith

fit : (room : ℕ) (cuts : List RowCut) → fitting room cuts ≤ length cuts
unfolding fitting
fit room [] = omega arith
fit room (cut ∷ cuts) = fit_if (nat_le cut.lines room) (length cuts) (fitting (room - cut.lines) cuts) (fit (room - cut.lines) cuts)

shown_within : (cuts : List RowCut) → shown_groups cuts ≤ length cuts
unfolding shown_groups
shown_within [] = omega arith
shown_within (cut ∷ cuts) = let within = fit (100 - cut.lines) cuts in omega (arith, within)

length_of_rest : (n : ℕ) (cuts : List RowCut) → n ≤ length cuts → n + length (drop n cuts) ≡ length cuts
length_of_rest n cuts within = let rest = length-drop n cuts in omega (arith, within, rest)

pub counts_each_group : CountsEachGroup
counts_each_group cuts = length_of_rest (shown_groups cuts) cuts (shown_within cuts)

pub sums_each_group : SumsEachGroup
sums_each_group cuts = sum_by-take-drop (λ cut. cut.whole) cuts (shown_groups cuts)

fits_if : (cut : RowCut) (cuts : List RowCut) (room : ℕ) (few : ℕ) → lines_of (take few cuts) ≤ room - cut.lines
    → (b : Bool) → nat_le cut.lines room ≡ b → lines_of (take (if b then suc few else 0) (cut ∷ cuts)) ≤ room
fits_if cut cuts room few fits true is =
    let step = sum_by-cons (λ cut. cut.lines) cut (take few cuts) in let below : cut.lines ≤ room = grind (arith, nat_tests, is) in omega (arith, step, below, fits)
fits_if cut cuts room few fits false is = omega arith

fits : (room : ℕ) (cuts : List RowCut) → lines_of (take (fitting room cuts) cuts) ≤ room
unfolding fitting
fits room [] = omega arith
fits room (cut ∷ cuts) = fits_if cut cuts room (fitting (room - cut.lines) cuts) (fits (room - cut.lines) cuts) (nat_le cut.lines room) refl

past_if : (cut : RowCut) (cuts : List RowCut) (room : ℕ) (few : ℕ) → (few < length cuts → room - cut.lines < lines_of (take (suc few) cuts))
    → (b : Bool) → nat_le cut.lines room ≡ b → (if b then suc few else 0) < length (cut ∷ cuts) → room < lines_of (take (suc (if b then suc few else 0)) (cut ∷ cuts))
past_if cut cuts room few past true is below =
    let step = sum_by-cons (λ cut. cut.lines) cut (take (suc few) cuts) in
    let fits : cut.lines ≤ room = grind (arith, nat_tests, is) in
    let more = past (omega (arith, below)) in
    omega (arith, step, fits, more)
past_if cut cuts room few past false is below =
    let step = sum_by-cons (λ cut. cut.lines) cut (take 0 cuts) in let over : room < cut.lines = grind (arith, nat_tests, is) in omega (arith, step, over)

past : (room : ℕ) (cuts : List RowCut) → fitting room cuts < length cuts → room < lines_of (take (suc (fitting room cuts)) cuts)
unfolding fitting
past room [] below = omega (arith, below)
past room (cut ∷ cuts) below = past_if cut cuts room (fitting (room - cut.lines) cuts) (past (room - cut.lines) cuts) (nat_le cut.lines room) refl below

pub shows_groups : ShowsGroups
unfolding shown_groups
shows_groups first cuts room =
    let few = fitting (100 - first.lines) cuts in
    let step = sum_by-cons (λ cut. cut.lines) first (take few cuts) in
    let next_step = sum_by-cons (λ cut. cut.lines) first (take (suc few) cuts) in
    let all = fits (100 - first.lines) cuts in
    record {
      most = omega (arith, step, all, room);
      next = λ below. let more = past (100 - first.lines) cuts (omega (arith, below)) in omega (arith, next_step, more);
    }

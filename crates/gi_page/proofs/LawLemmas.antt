-- What holds of all pages.
use Rattle.std.proofs.Common.{◌≡◌, ◌<◌, ◌≤◌, ◌+◌, ◌∙◌, ℕ, zero, suc, List, [], ◌∷◌, Option, Some, None, map, refl, sym, arith, subst}
use Rattle.std.specs.Prelude.{All, Contains}
use Rattle.std.specs.List.{flat_map, range_with_len}
use Rattle.std.proofs.lemmas.List.Elements.{All-append, All-cons, All-nil}
use Rattle.std.proofs.lemmas.List.{map-append}
use Rattle.jiff_core.specs.declared.civil.date.Date.{Date}
use Rattle.gi_pairs.specs.Row.{key_of}
use Rattle.gi_pairs.specs.Table.{TableContents}
use Rattle.gi_pairs.specs.declared.key.Key.{Key}
use Rattle.gi_pairs.specs.declared.row.Row.{Row}
use Rattle.gi_pairs.specs.declared.side.Side.{Side}
use Rattle.gi_pairs.proofs.Building.{In, contains_from_in, in_from_contains}
use Rattle.gi_messages.specs.Limits.{last_cycle}
use Rattle.gi_desk.specs.Machine.{DeskState}
use Rattle.gi_desk.specs.Queries.{confirmed, frozen}
use Rattle.gi_schedule.specs.InForce.{Confirmed, cycle_of, is_covered, quantity_of}
use Rattle.gi_schedule.specs.Keys.{day_keys, keys_if}
use Rattle.gi_schedule.specs.Lines.{counted}
use Rattle.gi_schedule.proofs.KeyOrderLemmas.{sorted_day, sorted_each}
use Rattle.gi_schedule.proofs.ListedLemmas.{in_added, in_first, in_last, in_numbered, in_rows}
use Rattle.gi_picture.specs.declared.hour.Hour.{Hour}
use Rattle.gi_page.specs.Flows.{hour_of, sum_of}
use Rattle.gi_page.specs.Keys.{cycle_keys, page_keys}
use Rattle.gi_page.specs.Laws.{IsShown, ListsEachConfirmed, ListsEachFrozen, ListsEachOnce, ShowsWhatIsInForce, SumsTheDay, SumsTheRows, SumsTheSchedule, TellsTheSchedule}
use Rattle.gi_page.specs.Shown.{cycles_at, hour_cycles}
use Rattle.gi_page.specs.declared.hour_cycles.HourCycles.{HourCycles}
use Rattle.gi_page.proofs.SumLemmas.{counted_none, in_page, last_low, same_sum, unlisted}

pub each_once : ListsEachOnce
unfolding page_keys
each_once side s day = sorted_each (flat_map (λ cycle. cycle_keys side s (cycle_of day cycle)) (range_with_len 0 (last_cycle + 1)))

pub tells_the_schedule : TellsTheSchedule
tells_the_schedule side s day key at shown = refl

pub sums_the_schedule : SumsTheSchedule
unfolding sum_of
sums_the_schedule side s day direction keys at shown = refl

pub sums_the_day : SumsTheDay
sums_the_day side s day direction at shown in_force =
    let c : Confirmed = confirmed side s in
    let f : Key → ℕ = λ key. counted direction key.direction (quantity_of c day key at) in
    let low : at.cycle < last_cycle + 1 = last_low (is_covered c day at.hour) (last_cycle + 1) at.cycle in_force in
    sums_the_schedule side s day direction (page_keys side s day) at shown
    ∙ sym (same_sum f (page_keys side s day) (day_keys c None day) (each_once side s day) (sorted_day c None day) (in_page side s day)
    (λ key h lacks. counted_none direction key.direction (quantity_of c day key at) (unlisted c day key at.hour at.cycle low lacks)))

pub sums_the_rows : SumsTheRows
unfolding sum_of
sums_the_rows side s day direction at keys = record { nominated = refl; processed = refl; peers = refl; in_force = refl }

-- ---- the hours

pub shows_what_is_in_force : ShowsWhatIsInForce
shows_what_is_in_force side s day keys zero = All-nil (IsShown side s day)
shows_what_is_in_force side s day keys (suc before) =
    let P : Hour → Type 0 = IsShown side s day in
    let f : HourCycles → Hour = hour_of side s day keys in
    let front : List HourCycles = hour_cycles side s day before in
    let last : HourCycles = cycles_at side s day (suc before) in
    subst (All P) (sym (map-append f front (last ∷ [])))
    (All-append P (map f front) (f last ∷ []) (shows_what_is_in_force side s day keys before)
    (All-cons P (f last) [] (record { in_force = refl; shown = refl }) (All-nil P)))

-- ---- the rows

listed : (side : Side) (s : DeskState) (day : Date) (cycle : ℕ) (key : Key) → cycle ≤ last_cycle → In key (cycle_keys side s (cycle_of day cycle)) → Contains (page_keys side s day) key
unfolding page_keys
listed side s day cycle key low here =
    let of : ℕ → List Key = λ n. cycle_keys side s (cycle_of day n) in
    contains_from_in key (page_keys side s day)
    (in_added key [] (flat_map of (range_with_len 0 (last_cycle + 1))) (in_numbered key of 0 (last_cycle + 1) cycle (omega arith) (omega (arith, low)) here))

row_in : (table : TableContents) (row : Row) (o : Option TableContents) → o ≡ Some table → Contains table.rows row → In (key_of row) (keys_if None o)
row_in table row o is there =
    subst (λ (p : Option TableContents). In (key_of row) (keys_if None p)) (sym is) (in_rows None row table.rows (in_from_contains row table.rows there) refl)

pub each_frozen : ListsEachFrozen
each_frozen side s day cycle table row low is there =
    let a : List Key = keys_if None (frozen side s.facts (cycle_of day cycle)) in
    let b : List Key = keys_if None (confirmed side s (cycle_of day cycle)) in
    listed side s day cycle (key_of row) low (in_first (key_of row) a b (row_in table row (frozen side s.facts (cycle_of day cycle)) is there))

pub each_confirmed : ListsEachConfirmed
each_confirmed side s day cycle table row low is there =
    let a : List Key = keys_if None (frozen side s.facts (cycle_of day cycle)) in
    let b : List Key = keys_if None (confirmed side s (cycle_of day cycle)) in
    listed side s day cycle (key_of row) low (in_last (key_of row) a b (row_in table row (confirmed side s (cycle_of day cycle)) is there))

-- The keys of a page.
use Rattle.std.proofs.Common.{◌≡◌, ◌∙◌, ℕ, List, [], ◌++◌, refl, sym, ap}
use Rattle.std.specs.Prelude.{Option, None, ◌+◌}
use Rattle.std.specs.BTreeSet.{insert_key}
use Rattle.std.specs.List.{flat_map, range_with_len}
use Rattle.jiff_core.specs.declared.civil.date.Date.{Date}
use Rattle.gi_pairs.specs.Key.{key_cmp}
use Rattle.gi_pairs.specs.Row.{key_of}
use Rattle.gi_pairs.specs.Table.{TableContents}
use Rattle.gi_pairs.specs.declared.key.Key.{Key}
use Rattle.gi_pairs.specs.declared.row.Row.{Row}
use Rattle.gi_pairs.specs.declared.side.Side.{Side}
use Rattle.gi_messages.specs.Limits.{last_cycle}
use Rattle.gi_desk.specs.Machine.{DeskState}
use Rattle.gi_schedule.specs.InForce.{cycle_of}
use Rattle.gi_schedule.specs.Keys.{keys_if, row_keys, with_each}
use Rattle.gi_schedule.proofs.KeyLemmas.{with_each-append}
use Rattle.gi_page.specs.Keys.{cycle_keys, page_keys}

pub row_added : (row : Row) (keys : List Key) → insert_key key_cmp keys (key_of row) ≡ with_each keys (row_keys None row)
unfolding with_each
row_added row keys = refl

-- the rows of two tables, one after the other
pub both_added : (keys mid new : List Key) (a frozen b confirmed : Option TableContents) → a ≡ frozen → b ≡ confirmed → mid ≡ with_each keys (keys_if None a)
    → new ≡ with_each mid (keys_if None b) → new ≡ with_each keys (keys_if None frozen ++ keys_if None confirmed)
both_added keys mid new a frozen b confirmed a_is b_is mid_is new_is =
    new_is ∙ (λ t. with_each (mid_is t) (keys_if None (b_is t))) ∙ ap (λ (o : Option TableContents). with_each (with_each keys (keys_if None o)) (keys_if None confirmed)) a_is
    ∙ sym (with_each-append keys (keys_if None frozen) (keys_if None confirmed))

pub keys_all : (side : Side) (s : DeskState) (day : Date) (n : ℕ) → n ≡ last_cycle + 1
    → with_each [] (flat_map (λ cycle. cycle_keys side s (cycle_of day cycle)) (range_with_len 0 n)) ≡ page_keys side s day
unfolding page_keys
keys_all side s day n is = ap (λ count. with_each [] (flat_map (λ cycle. cycle_keys side s (cycle_of day cycle)) (range_with_len 0 count))) is

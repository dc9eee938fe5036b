-- The keys of a gas day.
use Rattle.std.proofs.Common.{◌≡◌, ◌<◌, ◌+◌, ◌-◌, ℕ, List, [], ◌∷◌, ◌++◌, length, take, get_or, Bool, true, false, Option, refl, sym, ap, ◌∙◌, arith}
use Rattle.std.specs.Prelude.{if◌then◌else◌}
use Rattle.std.specs.BTreeSet.{insert_key}
use Rattle.std.specs.List.{flat_map, range_with_len}
use Rattle.std.proofs.lemmas.List.{flat_map_more, take_more}
use Rattle.jiff_core.specs.declared.civil.date.Date.{Date}
use Rattle.gi_pairs.specs.Key.{key_cmp}
use Rattle.gi_pairs.specs.Row.{key_of}
use Rattle.gi_pairs.specs.declared.key.Key.{Key}
use Rattle.gi_pairs.specs.declared.row.Row.{Row}
use Rattle.gi_messages.specs.Limits.{last_cycle}
use Rattle.gi_schedule.specs.InForce.{Confirmed, cycle_of}
use Rattle.gi_schedule.specs.Keys.{day_keys, keys_if, row_keys, with_each}
use Rattle.gi_schedule.specs.Wanted.{wants_pair}
use Rattle.gi_schedule.proofs.InForceLemmas.{number_more}

-- ---- keys added one after the other

pub with_none : (keys : List Key) → with_each keys [] ≡ keys
unfolding with_each
with_none keys = refl

pub with_each-append : (keys xs ys : List Key) → with_each keys (xs ++ ys) ≡ with_each (with_each keys xs) ys
unfolding with_each
with_each-append keys [] ys = refl
with_each-append keys (x ∷ xs) ys = with_each-append (insert_key key_cmp keys x) xs ys

pub row_wanted : (portfolio : Option (List ℕ)) (row : Row) (keys : List Key) (wanted : Bool) → wanted ≡ wants_pair portfolio row.pair → wanted ≡ true
    → insert_key key_cmp keys (key_of row) ≡ with_each keys (row_keys portfolio row)
unfolding with_each
row_wanted portfolio row keys wanted is here = ap (λ b. with_each keys (if b then key_of row ∷ [] else [])) (sym here ∙ is)

pub row_passed : (portfolio : Option (List ℕ)) (row : Row) (keys : List Key) (wanted : Bool) → wanted ≡ wants_pair portfolio row.pair → wanted ≡ false
    → keys ≡ with_each keys (row_keys portfolio row)
unfolding with_each
row_passed portfolio row keys wanted is here = ap (λ b. with_each keys (if b then key_of row ∷ [] else [])) (sym here ∙ is)

-- one row more
pub row_more : (portfolio : Option (List ℕ)) (rows : List Row) (i : ℕ) (row : Row) (old keys new : List Key) → i < length rows → row ≡ get_or rows i row
    → keys ≡ with_each old (flat_map (row_keys portfolio) (take i rows)) → new ≡ with_each keys (row_keys portfolio row)
    → new ≡ with_each old (flat_map (row_keys portfolio) (take (i + 1) rows))
row_more portfolio rows i row old keys new below is keys_is new_is =
    let of : Row → List Key = row_keys portfolio in
    let front = take_more rows i row below ∙ ap (λ (r : Row). take i rows ++ r ∷ []) (sym is) in
    new_is ∙ ap (λ (l : List Key). with_each l (of row)) keys_is ∙ sym (with_each-append old (flat_map of (take i rows)) (of row))
    ∙ ap (with_each old) (flat_map_more of [] (take i rows) row) ∙ ap (λ (l : List Row). with_each old (flat_map of l)) (sym front)

-- one cycle more
pub cycle_more : (of : ℕ → List Key) (n : ℕ) (added keys new : List Key) → keys ≡ with_each [] (flat_map of (range_with_len 0 n)) → added ≡ of n → new ≡ with_each keys added
    → new ≡ with_each [] (flat_map of (range_with_len 0 (n + 1)))
cycle_more of n added keys new keys_is added_is new_is =
    let here : n - 0 ≡ n = omega arith in
    let next : n + 1 - 0 ≡ n + 1 = omega arith in
    let more = number_more of 0 n (flat_map of (range_with_len 0 n)) added (flat_map of (range_with_len 0 n) ++ added) (omega arith)
    (ap (λ count. flat_map of (range_with_len 0 count)) (sym here)) added_is refl in
    new_is ∙ ap (λ (l : List Key). with_each l added) keys_is ∙ sym (with_each-append [] (flat_map of (range_with_len 0 n)) added)
    ∙ ap (with_each []) (more ∙ ap (λ count. flat_map of (range_with_len 0 count)) next)

pub keys_all : (confirmed : Confirmed) (portfolio : Option (List ℕ)) (day : Date) (n : ℕ) → n ≡ last_cycle + 1
    → with_each [] (flat_map (λ cycle. keys_if portfolio (confirmed (cycle_of day cycle))) (range_with_len 0 n)) ≡ day_keys confirmed portfolio day
unfolding day_keys
keys_all confirmed portfolio day n is = ap (λ count. with_each [] (flat_map (λ cycle. keys_if portfolio (confirmed (cycle_of day cycle))) (range_with_len 0 count))) is

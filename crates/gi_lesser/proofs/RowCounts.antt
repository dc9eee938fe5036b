-- How many rows the lesser of two tables has for some keys.
use Rattle.std.proofs.Common.{◌≡◌, ◌+◌, ◌≤◌, List, [], ◌∷◌, map, filter, not, Bool, cond, count_by, refl, sym, ap, ◌∙◌, arith}
use Rattle.std.proofs.lemmas.List.Filters.{sum_by-filter_both}
use Rattle.std.proofs.lemmas.List.Sorted.{sum_by-IsPermutation}
use Rattle.std.proofs.lemmas.List.Sums.{sum_by-append, sum_by-cons}
use Rattle.gi_pairs.specs.Row.{key_of}
use Rattle.gi_pairs.specs.Table.{in_order, keys_of}
use Rattle.gi_pairs.specs.declared.key.Key.{Key}
use Rattle.gi_pairs.specs.declared.row.Row.{Row}
use Rattle.gi_pairs.proofs.TableLaws.{in_order-permutation}
use Rattle.gi_lesser.specs.Laws.{AddsNoRows, count_for}
use Rattle.gi_lesser.specs.Lesser.{keys_of_both, lacks, lesser_of, lesser_row}
use Rattle.gi_lesser.proofs.LesserLaws.{keys_of-rows}

-- rows are counted by their keys
count_for-keys : (wanted : Key → Bool) (rows : List Row) → count_for wanted rows ≡ count_by wanted (keys_of rows)
count_for-keys wanted [] = refl
count_for-keys wanted (row ∷ rows) =
    sum_by-cons (λ (r : Row). cond (wanted (key_of r)) 1 0) row rows ∙ ap (λ n. cond (wanted (key_of row)) 1 0 + n) (count_for-keys wanted rows)
    ∙ sym (sum_by-cons (λ (key : Key). cond (wanted key) 1 0) (key_of row) (keys_of rows))

-- their order does not matter
count_for-in_order : (wanted : Key → Bool) (rows : List Row) → count_for wanted (in_order rows) ≡ count_for wanted rows
count_for-in_order wanted rows = sum_by-IsPermutation (λ (row : Row). cond (wanted (key_of row)) 1 0) rows (in_order rows) (in_order-permutation rows)

count-filter : (wanted kept : Key → Bool) (keys : List Key) → count_by wanted (filter kept keys) ≤ count_by wanted keys
count-filter wanted kept keys = omega (arith, sum_by-filter_both kept (λ key. not (kept key)) (λ _. refl) (λ key. cond (wanted key) 1 0) keys)

pub adds-no_rows : AddsNoRows
unfolding lesser_of
adds-no_rows wanted own peer =
    let keys = keys_of_both own peer in
    let rows = map (lesser_row own peer) keys in
    let counted : count_for wanted (in_order rows) ≡ count_by wanted keys = count_for-in_order wanted rows ∙ count_for-keys wanted rows ∙ ap (count_by wanted) (keys_of-rows own peer keys) in
    let both = sum_by-append (λ (key : Key). cond (wanted key) 1 0) (keys_of own.rows) (filter (lacks own) (keys_of peer.rows)) in
    omega (arith, counted, both, count-filter wanted (lacks own) (keys_of peer.rows), count_for-keys wanted own.rows, count_for-keys wanted peer.rows)

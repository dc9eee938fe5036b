-- A table is read exactly where it stands in the relation.
use Rattle.std.proofs.Common.{◌≡◌, ℕ, ◌≤◌, Bool, true, false, cond, List, Some, Result, Ok, Err, refl, sym, ap, ◌∙◌, subst, le-ltb, ltb-false, All, nat_lt}
use Rattle.std.specs.Result.{result_ok}
use Rattle.std.specs.List.Sorted.{IsPermutation}
use Rattle.std.proofs.lemmas.List.Elements.{All-from_recursion}
use Rattle.serde_json.specs.Data.{Data, array, Items}
use Rattle.serde_json.specs.Events.{items_len}
use Rattle.gi_pairs.specs.Code.{IsCode}
use Rattle.gi_pairs.specs.Quantity.{IsQuantity}
use Rattle.gi_pairs.specs.Row.{IsRow}
use Rattle.gi_pairs.specs.Table.{TableContents, covered, built}
use Rattle.gi_pairs.specs.Quantity.{most_quantity}
use Rattle.gi_pairs.specs.declared.row.Row.{Row}
use Rattle.gi_pairs.specs.declared.table.TableFault.{TableFault}
use Rattle.gi_pairs.proofs.TableLaws.{in_order-permutation, built-contents, built-is_table, built-again}
use Rattle.gi_messages.specs.declared.key.Key.{Key}
use Rattle.gi_messages.specs.declared.key.Key.TheVariants as keys
use Rattle.gi_messages.specs.Grammar.{Has, IsText, NamesCode, IsWhole, AreElements, IsRowFor, HasRows, HasTable}
use Rattle.gi_messages.specs.Reading.{Read, ◌>>=◌, wanted, each, items, row, rows_of, table}
use Rattle.gi_messages.proofs.FieldLemmas.{bind_ok, wanted_ok, each_takes, each_again, items_len-Each, items_takes, items_again, all_of_each}
use Rattle.gi_messages.proofs.RowLemmas.{Reads-row}

-- ---- rows that stand in the relation are rows of codes and quantities

pub is_code : (key : Key) (d : Data) (code : List ℕ) → Has (IsText NamesCode) key d code → IsCode code
is_code key d code h = subst IsCode h.stands.names.1 h.stands.names.0

pub are_quantities : (d : Data) (hs : List ℕ) → Has (AreElements (IsWhole 0 most_quantity)) keys.Hours d hs → All IsQuantity hs
are_quantities d hs h = All-from_recursion IsQuantity hs (all_of_each (IsWhole 0 most_quantity) IsQuantity (λ e n is. is.to) h.stands.elements hs h.stands.each)

pub IsRow-IsRowFor : (count : ℕ) (d : Data) (r : Row) → IsRowFor count d r → IsRow r
IsRow-IsRowFor count d r h = record {
  key = record { initiating = is_code _ d r.pair.initiating h.initiating; matching = is_code _ d r.pair.matching h.matching };
  quantities = are_quantities d r.hours h.quantities;
}

-- ---- the table that they make

pub some_of_ok : (r : Result TableContents TableFault) (t : TableContents) → result_ok r ≡ Some t → r ≡ Ok t
some_of_ok (Ok s) t e = let same : s ≡ t = cc in ap (λ (u : TableContents). Ok u) same
some_of_ok (Err f) t e = absurd cc

pub makes : (first last : ℕ) (rows : List Row) (t : TableContents) → All IsRow rows → built first last rows ≡ Ok t → HasRows first last rows t
makes first last rows t all e =
    let same = (built-contents first last rows t e).1 in
    record {
      begins = ap (λ (u : TableContents). u.first) (sym same);
      ends = ap (λ (u : TableContents). u.last) (sym same);
      same = subst (λ (u : TableContents). IsPermutation rows u.rows) same (in_order-permutation rows);
      table = built-is_table first last rows t all e;
    }

pub made : (first last : ℕ) (rows : List Row) (t : TableContents) → HasRows first last rows t → built first last rows ≡ Ok t
made first last rows t h = ap (λ n. built n last rows) (sym h.begins) ∙ ap (λ n. built t.first n rows) (sym h.ends) ∙ built-again rows t h.table h.same

few_ok : {X : Type 0} (b : Bool) (key : Key) (r : Read X) (x : X) → cond b (Err key) r ≡ Ok x → (b ≡ false) × (r ≡ Ok x)
few_ok true key r x e = absurd cc
few_ok false key r x e = (refl, e)

module _ (key : Key) (most first last : ℕ) (d : Data) (t : TableContents) where
  pub table_takes : table key most first last d ≡ Ok t → HasTable most first last key d t
  unfolding table rows_of
  table_takes e =
      let count = covered first last in
      let last_step = λ (rows : List Row). wanted key (result_ok (built first last rows)) in
      let a = bind_ok (items key d) (λ ds. rows_of key most count ds >>= last_step) t e in
      let b = bind_ok (rows_of key most count a.0) last_step t a.2 in
      let g = few_ok (nat_lt most (items_len a.0)) key (each (row key count) a.0) b.0 b.1 in
      let all = each_takes (row key count) (IsRowFor count) (Reads-row key count) a.0 b.0 g.1 in
      let as_many = items_len-Each (IsRowFor count) a.0 b.0 all in
      let is_built = some_of_ok (built first last b.0) t (wanted_ok key (result_ok (built first last b.0)) t b.2) in
      record {
        rows = b.0;
        array = record { value = array a.0; found = items_takes key d a.0 a.1; stands = record { elements = a.0; written = refl; each = all } };
        few = subst (λ n. n ≤ most) as_many (ltb-false most (items_len a.0) g.0);
        makes = makes first last b.0 t (All-from_recursion IsRow b.0 (all_of_each (IsRowFor count) IsRow (IsRow-IsRowFor count) a.0 b.0 all)) is_built;
      }

  pub table_again : HasTable most first last key d t → table key most first last d ≡ Ok t
  unfolding table rows_of
  table_again h =
      let count = covered first last in
      let last_step = λ (rows : List Row). wanted key (result_ok (built first last rows)) in
      let ds = h.array.stands.elements in
      let all = each_again (row key count) (IsRowFor count) (Reads-row key count) ds h.rows h.array.stands.each in
      let within : nat_lt most (items_len ds) ≡ false = le-ltb most (items_len ds) (subst (λ n. n ≤ most) (sym (items_len-Each (IsRowFor count) ds h.rows h.array.stands.each)) h.few) in
      ap (λ (s : Read Items). s >>= λ es. rows_of key most count es >>= last_step) (items_again (IsRowFor count) key d h.rows h.array)
      ∙ ap (λ b. cond b (Err key) (each (row key count) ds) >>= last_step) within ∙ ap (λ (s : Read (List Row)). s >>= last_step) all
      ∙ ap (λ (s : Result TableContents TableFault). wanted key (result_ok s)) (made first last h.rows t h.makes)

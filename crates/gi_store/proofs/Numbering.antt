-- Rows that cover the numbers from 1 on, and the row that comes next.
use Rattle.std.proofs.Common.{◌≡◌, inl, inr, ℕ, ◌+◌, ◌≤◌, ◌<ℤ◌, ℤ, pos, nat_lt, List, [], ◌∷◌, ◌++◌, map, length, Option, None, Some, IfSome, IsTrue, sum_by, refl, sym, ap, subst, ◌∙◌, arith, length-append}
use Rattle.std.specs.List.{AllByRecursion}
use Rattle.std.specs.declared.cmp.Ordering.TheVariants.{Less}
use Rattle.std.proofs.lemmas.Bool.{cases_Bool}
use Rattle.std.proofs.lemmas.Bool.Decides.{nat_tests}
use Rattle.std.proofs.lemmas.Int.{ints}
use Rattle.std.proofs.lemmas.List.Elements.{All-from_recursion, recursion_from_All}
use Rattle.std.proofs.lemmas.List.Sorted.{IsPermutation-sym, IsPermutation-refl, IsPermutation-append, All-permutation, sum_by-IsPermutation}
use Rattle.std.proofs.lemmas.List.Sums.{sum_by-cons}
use Rattle.sqlite_value.specs.declared.value.Value.{Value}
use Rattle.sqlite_value.specs.declared.value.Value.TheVariants.{Int, Text as Words}
use Rattle.sqlite_value.specs.Order.{Row, column, value_cmp}
use Rattle.sqlite_value.proofs.OrderLemmas.{value_cmp-Int}
use Rattle.sqlite_trees.specs.Tree.{Trees, put_row}
use Rattle.sqlite_schema.specs.declared.schema.Schema.{Schema}
use Rattle.sqlite.specs.State.{State}
use Rattle.gi_facts.specs.declared.fact.Fact.{Fact}
use Rattle.gi_facts.specs.Batch.{batch_of, batch_text}
use Rattle.gi_facts.proofs.BatchLemmas.{batch_few}
use Rattle.gi_store.specs.Tables.{HasTables, facts_tree}
use Rattle.gi_store.specs.Keeping.{PutsRow}
use Rattle.gi_store.specs.Rows.{both_columns, fact_rows, row_of, kept_row}
use Rattle.gi_store.specs.Facts.{AreFactsFrom, AreFacts, HasBody}
use Rattle.gi_store.specs.Book.{counted, IsCounted, BookInvariant, IsKnown, IsRead, AddsFacts, SavesAllOrNone}
use Rattle.gi_store.proofs.Walk.{one_more}

int_below : (m n : ℤ) → m <ℤ n → value_cmp (Int m) (Int n) ≡ Less
int_below m n h = value_cmp-Int m n ∙ grind (arith, ints, nat_tests)

-- ---- the next row comes last

-- the row comes before one with the number n
abbrev ComesBefore : ℕ → Row → Type 0
ComesBefore n row = value_cmp (column row 0) (Int (pos n)) ≡ Less

low_numbers : (n k : ℕ) (rows : List Row) (facts : List Fact) → n + length facts ≤ k → AreFactsFrom n rows facts → AllByRecursion (ComesBefore k) rows
low_numbers n k [] facts low all = tt
low_numbers n k (row ∷ rows) facts low all =
    let batch = all.0 in
    let rest = all.1 in
    let few = batch_few all.3.1.0 batch all.3.1.2 in
    let many : length facts ≡ length batch + length rest = ap length all.2 ∙ length-append batch rest in
    let below : pos n <ℤ pos k = omega (arith, ints, few.0, many) in
    (rw all.3.0 (int_below (pos n) (pos k) below), low_numbers (n + length batch) k rows rest (omega (arith, many)) all.4)

put_last : (n : ℕ) (text : List ℕ) (rows : List Row) → AllByRecursion (ComesBefore n) (map both_columns rows) → map both_columns (put_row (kept_row n text) rows) ≡ map both_columns rows ++ row_of n text ∷ []
put_last n text [] low = refl
put_last n text (row ∷ rows) low = rw low.0 (ap (λ more. both_columns row ∷ more) (put_last n text rows low.1))

pub comes_last : (k : ℕ) (text : List ℕ) (rows : List Row) (facts : List Fact) → AreFacts (map both_columns rows) facts → length facts ≡ k → map both_columns (put_row (kept_row (k + 1) text) rows) ≡ map both_columns rows ++ row_of (k + 1) text ∷ []
comes_last k text rows facts h count =
    let low = low_numbers 1 (k + 1) h.ordered facts (omega (arith, count)) h.each in
    let all = All-permutation (ComesBefore (k + 1)) h.ordered (map both_columns rows) (IsPermutation-sym _ _ h.same) (All-from_recursion (ComesBefore (k + 1)) h.ordered low) in
    put_last (k + 1) text rows (recursion_from_All (ComesBefore (k + 1)) (map both_columns rows) all)

-- ---- one row more

pub facts_more : (rows : List Row) (k : ℕ) (text : List ℕ) (facts batch : List Fact) → length facts ≡ k → batch_of text ≡ Some batch → AreFacts rows facts → AreFacts (rows ++ row_of (k + 1) text ∷ []) (facts ++ batch)
facts_more rows k text facts batch count reads h = record {
  ordered = h.ordered ++ row_of (k + 1) text ∷ [];
  same = IsPermutation-append rows h.ordered (row_of (k + 1) text ∷ []) (row_of (k + 1) text ∷ []) h.same (IsPermutation-refl (row_of (k + 1) text ∷ []));
  each = one_more 1 h.ordered facts (row_of (k + 1) text) batch h.each (ap (λ m. Int (pos m)) (omega (arith, count)), (text, refl, reads));
}

-- ---- rows have one number of facts

abbrev many_in : Option (List Fact) → ℕ
many_in (Some facts) = length facts
many_in None = 0

abbrev many_of : Value → ℕ
many_of (Words text) = many_in (batch_of text)
many_of _ = 0

abbrev many_at : Row → ℕ
many_at row = many_of (column row 1)

many_is : (row : Row) (facts : List Fact) → HasBody row facts → many_at row ≡ length facts
many_is row facts h = rw (h.1, h.2) refl

many_from : (n : ℕ) (rows : List Row) (facts : List Fact) → AreFactsFrom n rows facts → sum_by many_at rows ≡ length facts
many_from n [] facts all = sym (ap length all)
many_from n (row ∷ rows) facts all =
    let many : length facts ≡ length all.0 + length all.1 = ap length all.2 ∙ length-append all.0 all.1 in
    omega (arith, sum_by-cons many_at row rows, many_is row all.0 all.3.1, many_from (n + length all.0) rows all.1 all.4, many)

many_facts : (rows : List Row) (facts : List Fact) → AreFacts rows facts → sum_by many_at rows ≡ length facts
many_facts rows facts h = sym (sum_by-IsPermutation many_at rows h.ordered h.same) ∙ many_from 1 h.ordered facts h.each

pub as_many : (rows : List Row) (facts others : List Fact) → AreFacts rows facts → AreFacts rows others → length facts ≡ length others
as_many rows facts others h k = sym (many_facts rows facts h) ∙ many_facts rows others k

-- ---- what is counted

pub known_if : (s : State) (n : ℕ) → IsKnown s n → IfSome (counted n) (IsKnown s)
known_if s n h = elim (cases_Bool (nat_lt n 4294967295)) [ inl few ↦ rw few h | inr many ↦ rw many tt ]

pub counted_low : (n : ℕ) → IsCounted (counted n)
counted_low n = elim (cases_Bool (nat_lt n 4294967295)) [ inl few ↦ rw few (grind (arith, nat_tests, few)) | inr many ↦ rw many tt ]

pub read_known : (s : State) (facts : List Fact) → IsRead s facts → IfSome (counted (length facts)) (IsKnown s)
read_known s facts h = known_if s (length facts) (record { is_open = h.is_open; tables = h.book.tables; facts = facts; rows = h.rows; count = refl })

-- ---- the row of a batch

pub saves : (s : State) (n k : ℕ) (batch : List Fact) (text : List ℕ) (new : Trees) → IsKnown s k → n ≡ k + 1 → text ≡ batch_text batch → PutsRow s.now.schema n text s.now.trees new → AddsFacts s.now.schema n batch s.now.trees new
saves s n k batch text new known next is puts =
    let schema = s.now.schema in
    let old = s.now.trees in (
      subst (λ t. fact_rows schema new ≡ fact_rows schema old ++ row_of n t ∷ []) is
          (subst (λ m. new (facts_tree schema) ≡ put_row (kept_row m text) (old (facts_tree schema)) → fact_rows schema new ≡ fact_rows schema old ++ row_of m text ∷ []) (sym next)
          (λ put. ap (map both_columns) put ∙ comes_last k text (old (facts_tree schema)) known.facts known.rows known.count) puts.facts),
      puts.others,
    )

pub saved_facts : (schema : Schema) (n k : ℕ) (batch facts : List Fact) (old new : Trees) → length facts ≡ k → n ≡ k + 1 → batch_of (batch_text batch) ≡ Some batch → AddsFacts schema n batch old new → AreFacts (fact_rows schema old) facts → AreFacts (fact_rows schema new) (facts ++ batch)
saved_facts schema n k batch facts old new count next reads adds h =
    subst (λ rows. AreFacts rows (facts ++ batch)) (sym adds.0)
    (subst (λ m. AreFacts (fact_rows schema old ++ row_of m (batch_text batch) ∷ []) (facts ++ batch)) (sym next) (facts_more (fact_rows schema old) k (batch_text batch) facts batch count reads h))

pub saved_known : (old new : State) (n k : ℕ) (batch : List Fact) → IsKnown old k → IsTrue new.is_open → new.now.schema ≡ old.now.schema → n ≡ k + 1 → batch_of (batch_text batch) ≡ Some batch → AddsFacts old.now.schema n batch old.now.trees new.now.trees → IsKnown new (k + length batch)
saved_known old new n k batch known up same next reads adds = record {
  is_open = up;
  tables = subst HasTables (sym same) known.tables;
  facts = known.facts ++ batch;
  rows = subst (λ s. AreFacts (fact_rows s new.now.trees) (known.facts ++ batch)) (sym same) (saved_facts old.now.schema n k batch known.facts old.now.trees new.now.trees known.count next reads adds known.rows);
  count = length-append known.facts batch ∙ ap (λ m. m + length batch) known.count;
}

-- ---- where nothing is done

pub leaves_rows : (n : ℕ) (batch : List Fact) (loaded : Option ℕ) (s : State) → BookInvariant s loaded → ((db : Trees) → IsTrue s.is_open → s.may_leave db → db ≡ s.committed.trees) → SavesAllOrNone n batch loaded s s
leaves_rows n batch None s kept law = tt
leaves_rows n batch (Some k) s kept law = λ db leaves. inl (law db kept.known.is_open leaves ∙ sym (ap (λ d. d.trees) (kept.idle.settled kept.known.is_open)))

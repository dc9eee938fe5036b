-- Facts that were read from the rows of a book, or saved as its next row, stand there.
use Rattle.std.proofs.Common.{◌≡◌, ◌≤◌, ◌⊎◌, inl, inr, ℕ, ◌+◌, ◌-◌, Bool, true, false, List, [], ◌∷◌, ◌++◌, length, take, slice_get, Option, None, Some, Result, Ok, Err, IfOk, IfErr, IsTrue, MatchBool, Contains, refl, sym, ap, ◌∙◌, subst, arith}
use Rattle.std.specs.Prelude.{◌==◌, OnErr, OnOk}
use Rattle.std.proofs.lemmas.Bool.Decides.{nat_tests}
use Rattle.std.proofs.lemmas.List.{length-drop, length-take-le}
use Rattle.std.proofs.lemmas.List.Elements.{Contains-append_right, Contains-push}
use Rattle.std.proofs.lemmas.List.Sorted.{Contains-permutation, IsPermutation-sym}
use Rattle.sqlite_value.specs.Order.{Row}
use Rattle.sqlite.specs.State.{State}
use Rattle.gi_facts.specs.Batch.{batch_of, batch_text, most_facts}
use Rattle.gi_facts.specs.declared.fact.Fact.{Fact}
use Rattle.gi_store.specs.Batches.{is_batch}
use Rattle.gi_store.proofs.Kept.{keeps_or_adds}
use Rattle.gi_store.specs.Book.{AddsFacts, AnswersBatch, AnswersSave, AreSaved, KeepsOrSavesAll}
use Rattle.gi_store.specs.declared.head.Head.{Head}
use Rattle.gi_store.specs.FaultText.{IsFailure}
use Rattle.gi_store.specs.Facts.{AreFactsFrom, Covers}
use Rattle.gi_store.specs.Rows.{fact_rows, facts_in, row_of}
use Rattle.gi_store.specs.declared.store_fault.StoreFault.{StoreFault}
use Rattle.gi_store.specs.declared.store_fault.StoreFault.TheVariants.{NotNext}
use Rattle.gi_office.specs.Saving.{GoesOnBy, HasFrom, Stand, TellsNext, next_after}
use Rattle.gi_office.proofs.NextFacts.{slice_get-append, slice_get-drop}

-- one of the rows covers this number with the fact
record IsCovered (rows : List Row) (n : ℕ) (fact : Fact) : Type 0 where
  row : Row
  first : ℕ
  batch : List Fact
  there : Contains rows row
  covers : Covers first row batch
  before : ℕ
  number : first + before ≡ n
  is : slice_get batch before ≡ Some fact

covered : (m k : ℕ) (rows : List Row) (facts : List Fact) (fact : Fact) → AreFactsFrom m rows facts → slice_get facts k ≡ Some fact → IsCovered rows (m + k) fact
covered m k [] facts fact all is = absurd (let none : slice_get [] k ≡ Some fact = subst (λ (fs : List Fact). slice_get fs k ≡ Some fact) all is in cc)
covered m k (row ∷ rows) facts fact all is =
    let batch = all.0 in
    let rest = all.1 in
    elim (slice_get-append batch rest k fact (subst (λ (fs : List Fact). slice_get fs k ≡ Some fact) all.2 is)) [
      | inl here ↦ record { row = row; first = m; batch = batch; there = (0, omega arith, refl); covers = all.3; before = k; number = refl; is = here }
      | inr later ↦
          let found = covered (m + length batch) later.0 rows rest fact all.4 later.2 in
          record {
            row = found.row;
            first = found.first;
            batch = found.batch;
            there = Contains-append_right (row ∷ []) rows found.row found.there;
            covers = found.covers;
            before = found.before;
            number = omega (arith, found.number, later.1);
            is = found.is;
          }
    ]

pub stand_read : (n : ℕ) (facts : List Fact) (s : State) → 1 ≤ n → HasFrom n facts s → Stand n facts s
stand_read n facts s from has before fact is =
    let rows = has.read.rows in
    let there : slice_get has.all (n - 1 + before) ≡ Some fact = sym (slice_get-drop (n - 1) has.all before) ∙ (ap (λ (fs : List Fact). slice_get fs before) has.are ∙ is) in
    let found = covered 1 (n - 1 + before) rows.ordered has.all fact rows.each there in
    record {
      is_open = has.read.is_open;
      row = found.row;
      first = found.first;
      batch = found.batch;
      there = Contains-permutation rows.ordered (facts_in s.now) found.row (IsPermutation-sym (facts_in s.now) rows.ordered rows.same) found.there;
      covers = found.covers;
      before = found.before;
      number = omega (arith, found.number, from);
      is = found.is;
    }

pub stand_if_read : {E : Type 0} (n : ℕ) (facts : List Fact) (s : State) (result : Result ℕ E) → 1 ≤ n → IfOk result (λ count. HasFrom n (take count facts) s) → IfOk result (λ count. Stand n (take count facts) s)
stand_if_read n facts s (Ok count) from has = stand_read n (take count facts) s from has
stand_if_read n facts s (Err fault) from has = tt

pub stand_saved : (n : ℕ) (facts : List Fact) (old new : State) → batch_of (batch_text facts) ≡ Some facts → AreSaved n facts old new → Stand n facts new
stand_saved n facts old new reads saved before fact is =
    let row = row_of n (batch_text facts) in
    let added : fact_rows new.now.schema new.now.trees ≡ fact_rows old.now.schema old.now.trees ++ row ∷ [] = ap (λ schema. fact_rows schema new.now.trees) saved.schema ∙ saved.rows.0 in
    record {
      is_open = saved.is_open;
      row = row;
      first = n;
      batch = facts;
      there = subst (λ (rows : List Row). Contains rows row) (sym added) (Contains-push (fact_rows old.now.schema old.now.trees) row);
      covers = (refl, (batch_text facts, refl, reads));
      before = before;
      number = refl;
      is = is;
    }

pub stand_if_saved : {E : Type 0} (n : ℕ) (facts : List Fact) (old new : State) (result : Result (Unit {0}) E) → batch_of (batch_text facts) ≡ Some facts → OnOk result (AreSaved n facts old new) → OnOk result (Stand n facts new)
stand_if_saved n facts old new (Ok done) reads saved = stand_saved n facts old new reads saved
stand_if_saved n facts old new (Err fault) reads saved = tt

-- the rows are as they were, or those with the row of the facts after them
pub rows_either : (result : Result (Unit {0}) StoreFault) (head : Option Head) (n : ℕ) (facts : List Fact) (old new : State) → OnOk result (AreSaved n facts old new) → OnErr result (KeepsOrSavesAll head n facts old new)
    → IsTrue new.is_open → (new.now ≡ old.now) ⊎ ((new.now.schema ≡ old.now.schema) × AddsFacts old.now.schema n facts old.now.trees new.now.trees)
rows_either (Ok done) head n facts old new saved kept is_open = inr (saved.schema, saved.rows)
rows_either (Err fault) head n facts old new saved kept is_open = keeps_or_adds head n facts old new kept is_open

-- ---- what saving the next row is answered

abbrev IsNextIf : ℕ → Option ℕ → Result (Unit {0}) StoreFault → Type 0
IsNextIf n loaded result = OnOk result (loaded ≡ Some (n - 1))

answered_next : (n k : ℕ) (b : Bool) (result : Result (Unit {0}) StoreFault) → (n == k + 1) ≡ b → MatchBool b (IfErr result IsFailure) (result ≡ Err (NotNext (k + 1))) → IsNextIf n (Some k) result
answered_next n k true result is answers = if_ok result
  where
    same : Some k ≡ Some (n - 1)
    same = let e : n ≡ k + 1 = grind (arith, nat_tests, is) in ap (λ (m : ℕ). Some m) (omega (arith, e))

    if_ok : (r : Result (Unit {0}) StoreFault) → OnOk r (Some k ≡ Some (n - 1))
    if_ok (Ok done) = same
    if_ok (Err fault) = tt
answered_next n k false result is answers = subst (λ (r : Result (Unit {0}) StoreFault). IsNextIf n (Some k) r) (sym answers) tt

answered_save : (n : ℕ) (loaded : Option ℕ) (result : Result (Unit {0}) StoreFault) → AnswersSave n loaded result → IsNextIf n loaded result
answered_save n None result answers = subst (λ (r : Result (Unit {0}) StoreFault). IsNextIf n None r) (sym answers) tt
answered_save n (Some k) result answers = answered_next n k (n == k + 1) result refl answers

pub answered_batch : (n : ℕ) (facts : List Fact) (loaded : Option ℕ) (result : Result (Unit {0}) StoreFault) → 1 ≤ length facts → length facts ≤ most_facts → AnswersBatch n facts loaded result → IsNextIf n loaded result
answered_batch n facts loaded result some few answers =
    let is : is_batch facts ≡ true = grind (arith, nat_tests, some, few) in
    answered_save n loaded result (rw is at answers)

pub goes_on_count : (n : ℕ) (facts all : List Fact) (count : ℕ) → GoesOnBy n facts all count → count ≡ length all - (n - 1)
goes_on_count n facts all count goes = sym (length-take-le count facts goes.within) ∙ (sym (ap (length {A = Fact}) goes.are) ∙ length-drop (n - 1) all)

-- what is told where the facts that come next are others tells which number comes after all that were read
pub tells_next : (loaded read : Option ℕ) (fault : StoreFault) → loaded ≡ read → fault ≡ next_after read → TellsNext loaded fault
tells_next None read fault is told = tt
tells_next (Some k) read fault is told = told ∙ ap next_after (sym is)

-- What a new book in memory has, and one whose rows are read.
use Rattle.std.proofs.Common.{◌≡◌, ◌∙◌, ◌<◌, ◌+◌, ◌==◌, ◌++◌, ◌∷◌, ap, arith, codes, inl, inr, length, nat_lt, slice_get, take, ℕ, zero, suc, Bool, true, false, List, [], Option, None, Some, Result, Err, IfErr, IsTrue, refl, subst, sym}
use Rattle.std.specs.Prelude.{MatchBool}
use Rattle.std.proofs.lemmas.Bool.Decides.{nat_tests}
use Rattle.std.proofs.lemmas.List.{nil_from_length, take_more}
use Rattle.std.proofs.lemmas.Option.{slice_get_within, get_or_from_slice_get}
use Rattle.std.proofs.lemmas.List.Sorted.{IsPermutation-refl}
use Rattle.sqlite.specs.Effect.{Database}
use Rattle.sqlite.specs.State.{State}
use Rattle.sqlite.specs.Steps.{IsEmpty}
use Rattle.gi_facts.specs.declared.fact.Fact.{Fact}
use Rattle.sqlite_value.specs.Order.{Row}
use Rattle.gi_store.proofs.Numbering.{as_many}
use Rattle.gi_desk.specs.Queries.{fact_at}
use Rattle.gi_store.specs.Book.{AnswersSave, IsRead, counted}
use Rattle.gi_store.specs.FaultText.{IsFailure}
use Rattle.gi_store.specs.Facts.{AreFacts}
use Rattle.gi_store.specs.Keeping.{IsReady, Keeps, KeepsOrMakes}
use Rattle.gi_store.specs.Rows.{facts_in}
use Rattle.gi_store.specs.Tables.{HasTables, table_at}
use Rattle.gi_store.specs.declared.owner.Owner.{Owner}
use Rattle.gi_store.specs.declared.store_fault.StoreFault.{StoreFault}
use Rattle.gi_store.specs.declared.store_fault.StoreFault.TheVariants.{NotNext}
use Rattle.gi_service.specs.Copies.{IsCopy}

none_at : (s : State) → IsEmpty s → table_at s.now.schema (codes "book") ≡ None
unfolding table_at
none_at s empty = rw empty.2 refl

no_tables : (s : State) → IsEmpty s → HasTables s.now.schema → ⊥
no_tables s empty tables = let none = none_at s empty in let at = tables.book in cc

pub no_rows : (owner : Owner) (old new : State) → IsEmpty old → IsReady owner new → KeepsOrMakes owner old new → facts_in new.now ≡ []
no_rows owner old new empty ready (inl same) = absurd (no_tables old empty (subst (λ (d : Database). HasTables d.schema) same ready.book.tables))
no_rows owner old new empty ready (inr (inl made)) = made.empty
no_rows owner old new empty ready (inr (inr (inl added))) = absurd (no_tables old empty added.older.book.tables)
no_rows owner old new empty ready (inr (inr (inr raises))) = absurd (no_tables old empty raises.raises.first.tables)

-- ---- what is read of it

none_in : (rows : List Row) (facts : List Fact) → rows ≡ [] → AreFacts rows facts → facts ≡ []
none_in rows facts none are =
    let nothing : AreFacts [] [] = record { ordered = []; same = IsPermutation-refl []; each = refl } in
    nil_from_length facts (as_many [] facts [] (subst (λ r. AreFacts r facts) none are) nothing)

none_read : (old new : State) (facts : List Fact) → facts_in old.now ≡ [] → Keeps old new → IsRead new facts → facts ≡ []
none_read old new facts none keeps read = none_in (facts_in new.now) facts (ap facts_in (keeps.same read.is_open) ∙ none) read.rows

pub loaded_none : (old new : State) (facts : List Fact) (loaded : Option ℕ) → facts_in old.now ≡ [] → Keeps old new → IsRead new facts → loaded ≡ counted (length facts) → loaded ≡ Some 0
loaded_none old new facts loaded none keeps read is = is ∙ ap (λ (fs : List Fact). counted (length fs)) (none_read old new facts none keeps read)

pub copy_of_none : (old new : State) (facts : List Fact) → facts_in old.now ≡ [] → Keeps old new → IsRead new facts → IsCopy [] new
copy_of_none old new facts none keeps read = record {
  is_open = read.is_open;
  rows = subst (λ (fs : List Fact). AreFacts (facts_in new.now) fs) (none_read old new facts none keeps read) read.rows;
}

-- ---- a fact more

one_more : (facts : List Fact) (before n : ℕ) (fact : Fact) → n ≡ before + 1 → fact_at facts n ≡ Some fact → take (before + 1) facts ≡ take before facts ++ fact ∷ []
one_more facts before zero fact is found = absurd (omega (arith, is))
one_more facts before (suc b) fact is found =
    let same : before ≡ b = omega (arith, is) in
    let there : slice_get facts before ≡ Some fact = ap (λ (k : ℕ). slice_get facts k) same ∙ found in
    take_more facts before fact (slice_get_within facts before fact there) ∙ ap (λ (x : Fact). take before facts ++ x ∷ []) (get_or_from_slice_get facts before fact fact there)

pub copied_more : (facts : List Fact) (before n : ℕ) (fact : Fact) (old new : State) → n ≡ before + 1 → fact_at facts n ≡ Some fact → IsTrue new.is_open
    → ((had : List Fact) → AreFacts (facts_in old.now) had → AreFacts (facts_in new.now) (had ++ fact ∷ [])) → IsCopy (take before facts) old → IsCopy (take (before + 1) facts) new
copied_more facts before n fact old new is found is_open adds copy = record {
  is_open = is_open;
  rows = subst (λ (fs : List Fact). AreFacts (facts_in new.now) fs) (sym (one_more facts before n fact is found)) (adds (take before facts) copy.rows);
}

-- the next number is refused for a failure alone
answered : (n k : ℕ) (b : Bool) (result : Result (Unit {0}) StoreFault) → (n == k + 1) ≡ b → n ≡ k + 1 → MatchBool b (IfErr result IsFailure) (result ≡ Err (NotNext (k + 1))) → IfErr result IsFailure
answered n k true result is next answer = answer
answered n k false result is next answer = absurd (let t : ⊥ = grind (arith, nat_tests, is, next) in t)

pub failure : (k n : ℕ) (loaded : Option ℕ) (result : Result (Unit {0}) StoreFault) → loaded ≡ counted k → k < 4294967295 → n ≡ k + 1 → AnswersSave n loaded result → IfErr result IsFailure
failure k n loaded result is low next answer =
    let few : nat_lt k 4294967295 ≡ true = grind (arith, nat_tests, low) in
    let known : loaded ≡ Some k = is ∙ rw few refl in
    answered n k (n == k + 1) result refl next (subst (λ (l : Option ℕ). AnswersSave n l result) known answer)

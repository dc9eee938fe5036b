-- Rows that cover the numbers from one on with facts.
use Rattle.std.proofs.Common.{◌≡◌, ℕ, ◌+◌, List, [], ◌∷◌, ◌++◌, length, refl, sym, ap, ◌∙◌, subst, arith, append_assoc, append-nil, length-append}
use Rattle.sqlite_value.specs.Order.{Row}
use Rattle.gi_facts.specs.declared.fact.Fact.{Fact}
use Rattle.gi_store.specs.Facts.{Covers, AreFactsFrom, IsRowFault, IsReadFault}
use Rattle.gi_store.specs.declared.store_fault.StoreFault.{StoreFault}
use Rattle.gi_store.specs.declared.store_fault.StoreFault.TheVariants.{Gap, Damaged, Store, OutOfMemory}

pub one_more : (n : ℕ) (rows : List Row) (facts : List Fact) (row : Row) (batch : List Fact) → AreFactsFrom n rows facts → Covers (n + length facts) row batch → AreFactsFrom n (rows ++ row ∷ []) (facts ++ batch)
one_more n [] facts row batch all one =
    (batch, [], ap (λ fs. fs ++ batch) all ∙ sym (append-nil batch), subst (λ k. Covers k row batch) (omega (arith, ap length all)) one, refl)
one_more n (r ∷ rows) facts row batch all one =
    let first = all.0 in
    let rest = all.1 in
    let is : facts ≡ first ++ rest = all.2 in
    let many : length facts ≡ length first + length rest = ap length is ∙ length-append first rest in (
      first,
      rest ++ batch,
      ap (λ fs. fs ++ batch) is ∙ append_assoc first rest batch,
      all.3,
      one_more (n + length first) rows rest row batch all.4 (subst (λ k. Covers k row batch) (omega (arith, many)) one),
    )

pub refused : (rows before after : List Row) (row : Row) (facts : List Fact) (n : ℕ) (fault : StoreFault) → rows ≡ before ++ row ∷ after → AreFactsFrom 1 before facts → n ≡ length facts + 1 → IsRowFault n row fault → IsReadFault rows fault
refused rows before after row facts n (Gap m) is good count why = record { before = before; row = row; after = after; facts = facts; is = is; good = good; refused = subst (λ k. IsRowFault k row (Gap m)) count why }
refused rows before after row facts n (Damaged m) is good count why = record { before = before; row = row; after = after; facts = facts; is = is; good = good; refused = subst (λ k. IsRowFault k row (Damaged m)) count why }
refused rows before after row facts n Store is good count why = record { before = before; row = row; after = after; facts = facts; is = is; good = good; refused = subst (λ k. IsRowFault k row Store) count why }
refused rows before after row facts n OutOfMemory is good count why = record { before = before; row = row; after = after; facts = facts; is = is; good = good; refused = subst (λ k. IsRowFault k row OutOfMemory) count why }
refused rows before after row facts n _ is good count why = why

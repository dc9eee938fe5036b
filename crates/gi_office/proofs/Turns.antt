-- What a turn comes to, from what its parts do.
use Rattle.std.proofs.Common.{◌≡◌, ◌≤◌, inl, inr, ℕ, ◌+◌, ◌-◌, ◌^◌, true, false, List, [], ◌∷◌, length, take, drop, Some, Result, refl, ap, sym, ◌∙◌, subst, arith}
use Rattle.std.specs.Prelude.{if◌then◌else◌}
use Rattle.std.specs.List.{AllByRecursion}
use Rattle.std.proofs.lemmas.List.{length-take}
use Rattle.sqlite_trees.specs.declared.store.Store.{Ghosts}
use Rattle.sqlite.specs.Held.{state}
use Rattle.gi_pairs.specs.declared.side.Side.{Side}
use Rattle.gi_facts.specs.Batch.{most_facts}
use Rattle.gi_facts.specs.Grammar.{IsWritable}
use Rattle.gi_facts.specs.declared.fact.Fact.{Fact}
use Rattle.gi_desk.specs.Machine.{DeskState}
use Rattle.gi_store.specs.Batches.{IsLongestFront}
use Rattle.gi_store.specs.Book.{BookState}
use Rattle.gi_store.specs.Clean.{IsClean}
use Rattle.gi_store.specs.declared.store_fault.StoreFault.{StoreFault}
use Rattle.gi_office.specs.Keeping.{SeatState}
use Rattle.gi_office.specs.Saving.{AreNext, Halts, HasFrom, IsWriteFault, MarksAll, Saves, Stand, WritesAtMost, WritesNothing, is_ahead, look_of, next_facts, next_look}
use Rattle.gi_office.specs.declared.look.Look.TheVariants.{Halted, Next}
use Rattle.gi_office.specs.declared.save_fault.SaveFault.{SaveFault}
use Rattle.gi_office.specs.declared.turn.Turn.{Turn}

pub copied_next :
    (s : DeskState) (n : ℕ) (copies seen : List Fact) → copies ≡ next_facts s → seen ≡ copies → n ≡ s.saved → AllByRecursion IsWritable copies
    → s.saved + 1 + length copies ≤ 2 ^ 32 → 1 ≤ length copies → AreNext (n + 1) seen
copied_next s n copies seen are same count writable numbers some = subst (λ (fs : List Fact). AreNext (n + 1) fs) (sym same) (record {
  some = some;
  few = omega (arith, ap (length {A = Fact}) are, length-take most_facts (drop_saved s));
  writable = writable;
  first = omega arith;
  numbers = omega (arith, numbers, count);
})
  where
    drop_saved : DeskState → List Fact
    drop_saved d = drop d.saved d.facts

shown : (n : ℕ) (facts : List Fact) → 1 ≤ length facts → Next n facts ≡ next_look n facts
shown n [] some = absurd (omega (arith, some))
shown n (fact ∷ facts) some = refl

pub looked_next :
    (s : DeskState) (n : ℕ) (copies seen : List Fact) → s.halted ≡ false → copies ≡ next_facts s → seen ≡ copies → n ≡ s.saved → 1 ≤ length copies → Next (n + 1) seen ≡ look_of s
looked_next s n copies seen runs are same count some =
    let some_next : 1 ≤ length (next_facts s) = subst (λ (fs : List Fact). 1 ≤ length fs) are some in
    (λ i. Next (count i + 1) ((same ∙ are) i)) ∙ shown (s.saved + 1) (next_facts s) some_next
    ∙ sym (λ i. if runs i then Halted else next_look (s.saved + 1) (next_facts s))

module _ {S : Type 0} (side : Side) (store : Ghosts S) (before after : BookState S) (n : ℕ) (given slice : List Fact) (front : ℕ) where
  pub stood :
      (count : ℕ) (old : SeatState) (result : Result Turn SaveFault) (new : SeatState)
      → slice ≡ given → IsLongestFront given front
      → (IsClean store after.connection → IsClean store before.connection)
      → (IsClean store after.connection → WritesAtMost n (take front slice) (state store before.connection) (state store after.connection))
      → (is_ahead n before.loaded ≡ true → IsClean store after.connection → WritesNothing (state store before.connection) (state store after.connection))
      → count ≤ length slice
      → (IsClean store after.connection → Stand n (take count slice) (state store after.connection))
      → (is_ahead n before.loaded ≡ true → IsClean store after.connection → HasFrom n (take count slice) (state store after.connection))
      → (is_ahead n before.loaded ≡ false → (before.loaded ≡ Some (n - 1)) × (count ≡ front))
      → MarksAll side n (take count given) old result new
      → Saves side store before after n given old result new
  stood count old result new same longest early writes unwritten within stand ahead behind marks = record {
    front = front;
    longest = longest;
    early = early;
    writes = λ clean. subst (λ (fs : List Fact). WritesAtMost n (take front fs) (state store before.connection) (state store after.connection)) same (writes clean);
    unwritten = unwritten;
    told = inl (record {
      count = count;
      within = subst (λ (fs : List Fact). count ≤ length fs) same within;
      stand = λ clean. subst (λ (fs : List Fact). Stand n (take count fs) (state store after.connection)) same (stand clean);
      ahead = λ is_so clean. subst (λ (fs : List Fact). HasFrom n (take count fs) (state store after.connection)) same (ahead is_so clean);
      behind = behind;
      marks = marks;
    });
  }

  pub stood_not :
      (fault : StoreFault) (old : SeatState) (result : Result Turn SaveFault) (new : SeatState)
      → slice ≡ given → IsLongestFront given front
      → (IsClean store after.connection → IsClean store before.connection)
      → (IsClean store after.connection → WritesAtMost n (take front slice) (state store before.connection) (state store after.connection))
      → (is_ahead n before.loaded ≡ true → IsClean store after.connection → WritesNothing (state store before.connection) (state store after.connection))
      → IsWriteFault store before after n slice front fault
      → Halts side fault old result new
      → Saves side store before after n given old result new
  stood_not fault old result new same longest early writes unwritten why halts = record {
    front = front;
    longest = longest;
    early = early;
    writes = λ clean. subst (λ (fs : List Fact). WritesAtMost n (take front fs) (state store before.connection) (state store after.connection)) same (writes clean);
    unwritten = unwritten;
    told = inr (record { fault = fault; why = subst (λ (fs : List Fact). IsWriteFault store before after n fs front fault) same why; halts = halts });
  }

use Rattle.std.proofs.Common.{◌≡◌, inl, inr, ◌+◌, ◌++◌, length, Some, refl, sym, ap, subst, ◌∙◌}
use Rattle.sqlite.specs.Held.{state}
use Rattle.gi_facts.specs.Batch.{batch_of, batch_text}
use Rattle.gi_facts.proofs.BatchLemmas.{batch_again}
use Rattle.gi_store.specs.Tables.{HasTables}
use Rattle.gi_store.specs.Rows.{fact_rows}
use Rattle.gi_store.specs.Facts.{AreFacts}
use Rattle.gi_store.specs.Book.{AddsFacts, IsKnown}
use Rattle.gi_store.proofs.Numbering.{as_many, counted_low, known_if, leaves_rows, saved_facts, saved_known, saves}
use Rattle.gi_store.proofs.Heads.{told_of}
use Rattle.gi_store.proofs.Kept.{keeps_all, on_err, puts_saves}
use Rattle.gi_store.proofs.Fronts.{few_facts, some_facts}
use Rattle.gi_store.proofs.book_store.BookStore.save_batch.Goals as goal

pub returns-in_err-add_and_tell-clause-crash : goal.returns-in_err-add_and_tell-clause-crash
returns-in_err-add_and_tell-clause-crash g c clean db leaves =
    let old = state g.S.Store c.self.inside.connection in
    let new = state g.S.Store c.add_and_tell.new.connection in
    let facts = c.args.facts.now in
    let next : c.args.n ≡ c.in_ok-known.known + 1 = c.in_ok-known.ensures.next.1 in
    let early = c.add_and_tell.ensures.early clean in
    let known : IsKnown old c.in_ok-known.known = rw c.in_ok-known.ensures.next.0 at ((c.self.invariant.1 early).known) in
    let puts = c.add_and_tell.ensures.crash clean db leaves in
    rw (← c.self.view_is) (elim puts [
      | inl was ↦ inl was
      | inr put ↦ inr (saves old c.args.n c.in_ok-known.known facts (batch_text facts) db known next refl put)
    ])

pub returns-clause-crash : goal.returns-clause-crash
returns-clause-crash g c clean db leaves =
    let old = state g.S.Store c.self.inside.connection in
    let new = state g.S.Store c.add_and_tell.new.connection in
    let facts = c.args.facts.now in
    let next : c.args.n ≡ c.in_ok-known.known + 1 = c.in_ok-known.ensures.next.1 in
    let early = c.add_and_tell.ensures.early clean in
    let known : IsKnown old c.in_ok-known.known = rw c.in_ok-known.ensures.next.0 at ((c.self.invariant.1 early).known) in
    let puts = c.add_and_tell.ensures.crash clean db leaves in
    rw (← c.self.view_is) (elim puts [
      | inl was ↦ inl was
      | inr put ↦ inr (saves old c.args.n c.in_ok-known.known facts (batch_text facts) db known next refl put)
    ])

pub invariant_of-self-2 : goal.invariant_of-self-2
invariant_of-self-2 g c = rw c.counted-self-inside.ensures (
  counted_low (c.in_ok-known.known + length c.args.facts.now),
  λ clean.
      let old = state g.S.Store c.self.inside.connection in
      let new = state g.S.Store c.add_and_tell.new.connection in
      let facts = c.args.facts.now in
      let next : c.args.n ≡ c.in_ok-known.known + 1 = c.in_ok-known.ensures.next.1 in
      let early = c.add_and_tell.ensures.early clean in
      let known : IsKnown old c.in_ok-known.known = rw c.in_ok-known.ensures.next.0 at ((c.self.invariant.1 early).known) in
      let w = c.in_ok-add_and_tell.ensures.written clean in
      let adds : AddsFacts old.now.schema c.args.n facts old.now.trees new.now.trees = saves old c.args.n c.in_ok-known.known facts (batch_text facts) new.now.trees known next refl w.3 in
      let reads : batch_of (batch_text facts) ≡ Some facts = batch_again facts c.requires (some_facts facts c.in_ok-known.ensures.batch) (few_facts facts c.in_ok-known.ensures.batch) in
      record {
        idle = c.add_and_tell.ensures.idle clean;
        known = known_if new (c.in_ok-known.known + length facts) (saved_known old new c.args.n c.in_ok-known.known facts known w.1 w.2 next reads adds);
      },
  rw c.in_ok-add_and_tell.ensures.head (told_of c.self.inside.head c.in_ok-known.known c.args.facts.now (rw c.in_ok-known.ensures.next.0 at c.self.invariant.2)),
)

pub returns-clause-saved : goal.returns-clause-saved
returns-clause-saved g c clean =
    let old = state g.S.Store c.self.inside.connection in
    let new = state g.S.Store c.add_and_tell.new.connection in
    let facts = c.args.facts.now in
    let next : c.args.n ≡ c.in_ok-known.known + 1 = c.in_ok-known.ensures.next.1 in
    let early = c.add_and_tell.ensures.early clean in
    let known : IsKnown old c.in_ok-known.known = rw c.in_ok-known.ensures.next.0 at ((c.self.invariant.1 early).known) in
    let w = c.in_ok-add_and_tell.ensures.written clean in
    let adds : AddsFacts old.now.schema c.args.n facts old.now.trees new.now.trees = saves old c.args.n c.in_ok-known.known facts (batch_text facts) new.now.trees known next refl w.3 in
    let idle = c.add_and_tell.ensures.idle clean in
    let law = g.met.S.Store.settled c.add_and_tell.new.connection.store in
    rw (← c.self.view_is) (record {
      is_open = w.1;
      tables = subst HasTables (sym w.2) known.tables;
      schema = w.2;
      rows = adds;
      durable = λ db leaves. law db w.1 leaves ∙ sym (ap (λ d. d.trees) (idle.settled w.1));
    })

pub returns-clause-facts : goal.returns-clause-facts
returns-clause-facts g c clean had =
    let old = state g.S.Store c.self.inside.connection in
    let new = state g.S.Store c.add_and_tell.new.connection in
    let facts = c.args.facts.now in
    let next : c.args.n ≡ c.in_ok-known.known + 1 = c.in_ok-known.ensures.next.1 in
    let early = c.add_and_tell.ensures.early clean in
    let known : IsKnown old c.in_ok-known.known = rw c.in_ok-known.ensures.next.0 at ((c.self.invariant.1 early).known) in
    let w = c.in_ok-add_and_tell.ensures.written clean in
    let adds : AddsFacts old.now.schema c.args.n facts old.now.trees new.now.trees = saves old c.args.n c.in_ok-known.known facts (batch_text facts) new.now.trees known next refl w.3 in
    let reads : batch_of (batch_text facts) ≡ Some facts = batch_again facts c.requires (some_facts facts c.in_ok-known.ensures.batch) (few_facts facts c.in_ok-known.ensures.batch) in
    rw (← c.self.view_is) (λ are. subst (λ s. AreFacts (fact_rows s new.now.trees) (had ++ facts)) (sym w.2)
    (saved_facts old.now.schema c.args.n c.in_ok-known.known facts had old.now.trees new.now.trees (as_many _ had known.facts are known.rows ∙ known.count) next reads adds are))

pub returns-in_err-add_and_tell-clause-before : goal.returns-in_err-add_and_tell-clause-before
returns-in_err-add_and_tell-clause-before g c clean =
    let old = state g.S.Store c.self.inside.connection in
    let new = state g.S.Store c.add_and_tell.new.connection in
    let facts = c.args.facts.now in
    let next : c.args.n ≡ c.in_ok-known.known + 1 = c.in_ok-known.ensures.next.1 in
    let early = c.add_and_tell.ensures.early clean in
    let known : IsKnown old c.in_ok-known.known = rw c.in_ok-known.ensures.next.0 at ((c.self.invariant.1 early).known) in
    let kept = c.self.invariant.1 early in
    let law = g.met.S.Store.settled c.self.inside.connection.store in
    rw (← c.self.view_is) (rw c.in_ok-known.ensures.next.0 (λ db leaves. elim (c.add_and_tell.ensures.crash clean db leaves) [
      | inl was ↦ inl (law db known.is_open was ∙ sym (ap (λ d. d.trees) (kept.idle.settled known.is_open)))
      | inr put ↦ inr (saves old c.args.n c.in_ok-known.known facts (batch_text facts) db known next refl put)
    ]))

pub returns-clause-before : goal.returns-clause-before
returns-clause-before g c clean =
    let old = state g.S.Store c.self.inside.connection in
    let new = state g.S.Store c.add_and_tell.new.connection in
    let facts = c.args.facts.now in
    let next : c.args.n ≡ c.in_ok-known.known + 1 = c.in_ok-known.ensures.next.1 in
    let early = c.add_and_tell.ensures.early clean in
    let known : IsKnown old c.in_ok-known.known = rw c.in_ok-known.ensures.next.0 at ((c.self.invariant.1 early).known) in
    let kept = c.self.invariant.1 early in
    let law = g.met.S.Store.settled c.self.inside.connection.store in
    rw (← c.self.view_is) (rw c.in_ok-known.ensures.next.0 (λ db leaves. elim (c.add_and_tell.ensures.crash clean db leaves) [
      | inl was ↦ inl (law db known.is_open was ∙ sym (ap (λ d. d.trees) (kept.idle.settled known.is_open)))
      | inr put ↦ inr (saves old c.args.n c.in_ok-known.known facts (batch_text facts) db known next refl put)
    ]))

pub returns-in_err-known-clause-before : goal.returns-in_err-known-clause-before
returns-in_err-known-clause-before g c =
    rw (← c.self.view_is) (λ clean. leaves_rows c.args.n c.args.facts.now c.self.inside.loaded (state g.S.Store c.self.inside.connection) (c.self.invariant.1 clean) (g.met.S.Store.settled c.self.inside.connection.store))

pub returns-in_err-add_and_tell-clause-kept : goal.returns-in_err-add_and_tell-clause-kept
returns-in_err-add_and_tell-clause-kept g c clean =
    let old = state g.S.Store c.self.inside.connection in
    let new = state g.S.Store c.add_and_tell.new.connection in
    let early = c.add_and_tell.ensures.early clean in
    let known : IsKnown old c.in_ok-known.known = rw c.in_ok-known.ensures.next.0 at ((c.self.invariant.1 early).known) in
    rw (← c.self.view_is) (on_err _ (puts_saves c.self.inside.head c.args.n c.in_ok-known.known c.args.facts.now old new known c.in_ok-known.ensures.next.1
    (c.add_and_tell.ensures.idle clean) (g.met.S.Store.settled c.add_and_tell.new.connection.store) (c.in_err-add_and_tell.ensures.kept clean)))

pub returns-in_err-known-clause-kept : goal.returns-in_err-known-clause-kept
returns-in_err-known-clause-kept g c clean = rw (← c.self.view_is) (on_err _ (keeps_all c.self.inside.head c.args.n c.args.facts.now (state g.S.Store c.self.inside.connection)))

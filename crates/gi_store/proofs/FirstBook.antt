-- What the transactions do that make a book, or say whose it is.
use Rattle.std.proofs.Common.{◌≡◌, inl, inr, ℕ, List, [], Result, Ok, Err, OnOk, OnErr, IfErr, true, false, sym, subst, ◌∙◌, IsTrue, arith}
use Rattle.sqlite.specs.declared.error.Error.{Error}
use Rattle.sqlite.specs.State.{State, ExecutesInside, HasCleanDisk, KeepsCommit, KeepsCounts, Shows, Survives}
use Rattle.sqlite.specs.Held.{Held, state}
use Rattle.sqlite.specs.Steps.{FailsToCommit}
use Rattle.sqlite.proofs.InsideLemmas.{inside_keeps, keeps_then}
use Rattle.sqlite.proofs.StateLemmas.{survives_then}
use Rattle.sqlite.proofs.Callers.{survives_begin}
use Rattle.sqlite_trees.specs.Tree.{Trees}
use Rattle.sqlite_trees.specs.declared.store.Store.{Ghosts}
use Rattle.gi_store.specs.Keeping.{AddsName, IsBook, IsMade, IsVersion, KeepsCommitted, MakesNamed, MakesThird, MakesTwo, MayLeave, Raises, SetsVersion}
use Rattle.sqlite.specs.Effect.{Database}
use Rattle.gi_store.specs.Tables.{IsFree, TakesOwner}
use Rattle.gi_store.proofs.Meanings.{makes_two, row_given}
use Rattle.gi_store.proofs.Owners.{adds_name, makes_named, makes_third}
use Rattle.gi_store.proofs.Texts.{make_book, make_facts, make_owner, write_name, write_version}

-- ---- the statements of the two tables

pub written_book : {D : Type 0} (store : Ghosts D) (start first second last : Held D) (m n : ℕ) (r : Result ℕ Error) → IsTrue start.in_transaction → IsFree start.schema
    → Survives (state store first) (state store second) (λ _. ⊥) → Survives (state store second) (state store last) (λ _. ⊥)
    → (HasCleanDisk (state store first) → IsTrue start.in_transaction → ExecutesInside 0 make_book [] (state store start) (state store first) (Ok m))
    → (HasCleanDisk (state store second) → IsTrue first.in_transaction → ExecutesInside 0 make_facts [] (state store first) (state store second) (Ok n))
    → (HasCleanDisk (state store last) → IsTrue second.in_transaction → ExecutesInside 0 write_version [] (state store second) (state store last) r)
    → HasCleanDisk (state store last) → OnOk r (IsTrue last.in_transaction × MakesTwo (state store start).now (state store last).now)
written_book store start first second last m n (Ok k) inside free two_survives three_survives one two three clean =
    let late : HasCleanDisk (state store second) = omega (arith, three_survives.clean) in
    let mid : HasCleanDisk (state store first) = omega (arith, two_survives.clean) in
    let made_one = one mid inside in
    let made_two = two late made_one.1.mode in
    let made_three = three clean made_two.1.mode in
    (made_three.1.mode, makes_two (state store start) (state store first) (state store second) (state store last) m n k free made_one.0 made_two.0 made_three.0)
written_book store start first second last m n (Err e) inside free two_survives three_survives one two three clean = tt

-- whatever comes of the last statement, what the first two did is not committed
pub kept_commit : {D : Type 0} (store : Ghosts D) (start first second last : Held D) (m n : ℕ) (r : Result ℕ Error) → IsTrue start.in_transaction
    → Survives (state store first) (state store second) (λ _. ⊥) → Survives (state store second) (state store last) (λ _. ⊥)
    → (HasCleanDisk (state store first) → IsTrue start.in_transaction → ExecutesInside 0 make_book [] (state store start) (state store first) (Ok m))
    → (HasCleanDisk (state store second) → IsTrue first.in_transaction → ExecutesInside 0 make_facts [] (state store first) (state store second) (Ok n))
    → (HasCleanDisk (state store last) → IsTrue second.in_transaction → ExecutesInside 0 write_version [] (state store second) (state store last) r)
    → HasCleanDisk (state store last) → KeepsCommit (state store start) (state store last)
kept_commit store start first second last m n r inside two_survives three_survives one two three clean =
    let late : HasCleanDisk (state store second) = omega (arith, three_survives.clean) in
    let mid : HasCleanDisk (state store first) = omega (arith, two_survives.clean) in
    let made_one = one mid inside in
    let made_two = two late made_one.1.mode in
    keeps_then (state store start) (state store first) (state store last)
    (inside_keeps (state store start) (state store first) 0 false make_book [] (Ok m) made_one)
    (keeps_then (state store first) (state store second) (state store last)
    (inside_keeps (state store first) (state store second) 0 false make_facts [] (Ok n) made_two)
    (inside_keeps (state store second) (state store last) 0 false write_version [] r (three clean made_two.1.mode)))

-- ---- the statements of the third

pub written_owner : {D : Type 0} (store : Ghosts D) (start first last : Held D) (name : List ℕ) (m : ℕ) (r : Result ℕ Error) → (HasCleanDisk (state store start) → IsTrue start.in_transaction × TakesOwner start.schema)
    → Survives (state store start) (state store first) (λ _. ⊥) → Survives (state store first) (state store last) (λ _. ⊥)
    → (HasCleanDisk (state store first) → IsTrue start.in_transaction → ExecutesInside 0 make_owner [] (state store start) (state store first) (Ok m))
    → (HasCleanDisk (state store last) → IsTrue first.in_transaction → ExecutesInside 0 write_name (row_given 1 name) (state store first) (state store last) r)
    → HasCleanDisk (state store last) → OnOk r (IsTrue last.in_transaction × MakesThird name (state store start).now (state store last).now)
written_owner store start first last name m (Ok k) takes one_survives two_survives one two clean =
    let mid : HasCleanDisk (state store first) = omega (arith, two_survives.clean) in
    let early : HasCleanDisk (state store start) = omega (arith, one_survives.clean) in
    let made_one = one mid (takes early).0 in
    let made_two = two clean made_one.1.mode in
    (made_two.1.mode, makes_third (state store start) (state store first) (state store last) m k name (takes early).1 made_one.0 made_two.0)
written_owner store start first last name m (Err e) takes one_survives two_survives one two clean = tt

pub kept_name : {D : Type 0} (store : Ghosts D) (start first last : Held D) (name : List ℕ) (m : ℕ) (r : Result ℕ Error) → (HasCleanDisk (state store start) → IsTrue start.in_transaction × TakesOwner start.schema)
    → Survives (state store start) (state store first) (λ _. ⊥) → Survives (state store first) (state store last) (λ _. ⊥)
    → (HasCleanDisk (state store first) → IsTrue start.in_transaction → ExecutesInside 0 make_owner [] (state store start) (state store first) (Ok m))
    → (HasCleanDisk (state store last) → IsTrue first.in_transaction → ExecutesInside 0 write_name (row_given 1 name) (state store first) (state store last) r)
    → HasCleanDisk (state store last) → KeepsCommit (state store start) (state store last)
kept_name store start first last name m r takes one_survives two_survives one two clean =
    let mid : HasCleanDisk (state store first) = omega (arith, two_survives.clean) in
    let early : HasCleanDisk (state store start) = omega (arith, one_survives.clean) in
    let made_one = one mid (takes early).0 in
    keeps_then (state store start) (state store first) (state store last)
    (inside_keeps (state store start) (state store first) 0 false make_owner [] (Ok m) made_one)
    (inside_keeps (state store first) (state store last) 0 false write_name (row_given 1 name) r (two clean made_one.1.mode))

-- ---- all of them

pub written_all : {D : Type 0} (store : Ghosts D) (start mid last : Held D) (name : List ℕ) (r : Result ℕ Error) → IsFree start.schema → Survives (state store mid) (state store last) (λ _. ⊥)
    → (HasCleanDisk (state store mid) → IsTrue mid.in_transaction × MakesTwo (state store start).now (state store mid).now)
    → (HasCleanDisk (state store last) → OnOk r (IsTrue last.in_transaction × MakesThird name (state store mid).now (state store last).now))
    → HasCleanDisk (state store last) → OnOk r (IsTrue last.in_transaction × MakesNamed name (state store start).now (state store last).now)
written_all store start mid last name (Ok k) free survives two third clean =
    let made = third clean in
    (made.0, makes_named (state store start).now (state store mid).now (state store last).now name free (two (omega (arith, survives.clean))).1 made.1)
written_all store start mid last name (Err e) free survives two third clean = tt

-- an older book is of version 2, and says whose it is
pub written_older : {D : Type 0} (store : Ghosts D) (start mid last : Held D) (name : List ℕ) (r : Result ℕ Error) → TakesOwner start.schema → (HasCleanDisk (state store start) → IsBook (state store start).now)
    → Survives (state store start) (state store mid) (λ _. ⊥) → Survives (state store mid) (state store last) (λ _. ⊥)
    → (HasCleanDisk (state store mid) → IsTrue mid.in_transaction × SetsVersion (state store start).now (state store mid).now)
    → (HasCleanDisk (state store last) → OnOk r (IsTrue last.in_transaction × MakesThird name (state store mid).now (state store last).now))
    → HasCleanDisk (state store last) → OnOk r (IsTrue last.in_transaction × AddsName name (state store start).now (state store last).now)
written_older store start mid last name (Ok k) takes book one two sets third clean =
    let made = third clean in
    let late : HasCleanDisk (state store mid) = omega (arith, two.clean) in
    let early : HasCleanDisk (state store start) = omega (arith, one.clean) in
    (made.0, adds_name (state store start).now (state store mid).now (state store last).now name (record { book = book early; takes = takes }) (sets late).1 made.1)
written_older store start mid last name (Err e) takes book one two sets third clean = tt

-- nothing is committed by two steps of which neither commits
pub survives_both : (a b c : State) → Survives a b (λ _. ⊥) → Survives b c (λ _. ⊥) → Survives a c (λ _. ⊥)
survives_both a b c = survives_then a b c _ _ (λ _. ⊥) (λ _ db none. none) (λ _ db none. none)

-- ---- the whole transaction

-- it is made, and nothing is committed
pub record IsWritten {D : Type 0} (store : Ghosts D) (Makes : Database → Database → Type 0) (old last : Held D) : Type 0 where
  pub made : HasCleanDisk (state store last) → Makes (state store old).now (state store last).now
  pub survives : Survives (state store old) (state store last) (λ _. ⊥)

pub is_written : {D : Type 0} (store : Ghosts D) (Makes : Database → Database → Type 0) (old start last : Held D) → start ≡ record old { in_transaction = true }
    → (HasCleanDisk (state store last) → IsTrue last.in_transaction × Makes (state store start).now (state store last).now) → Survives (state store start) (state store last) (λ _. ⊥) → IsWritten store Makes old last
is_written {D} store Makes old start last begun book inside = record {
  made = λ clean. subst (λ (h : Held D). Makes (state store h).now (state store last).now) begun (book clean).1;
  survives = survives_begin store old (state store last) _ (rw begun at inside);
}

-- a book of version 1 is of version 2
pub is_raised : {D : Type 0} (store : Ghosts D) (old last : Held D) → (HasCleanDisk (state store old) → IsVersion 1 (state store old).now)
    → IsWritten store SetsVersion old last → IsWritten store Raises old last
is_raised store old last first written = record {
  made = λ clean. record { first = first (omega (arith, written.survives.clean)); sets = written.made clean };
  survives = written.survives;
}

pub made_book : {D : Type 0} (store : Ghosts D) (Makes : Database → Database → Type 0) (old last end : Held D) (r : Result (Unit {0}) Error) → IsWritten store Makes old last
    → Survives (state store last) (state store end) (λ db. db ≡ (state store last).now.trees)
    → (HasCleanDisk (state store end) → OnOk r (IsTrue last.in_transaction × Shows (state store last) (state store end) (state store last).now (state store last).now false × KeepsCounts (state store last) (state store end) × ((state store end).marks ≡ [])))
    → HasCleanDisk (state store end) → OnOk r (IsMade Makes (state store old) (state store end))
made_book store Makes old last end (Ok _) written committed ok clean =
    let shown = (ok clean).1 in
    record {
      idle = record { autocommit = shown.mode; settled = λ _. shown.now_is ∙ sym shown.committed_is };
      is_open = shown.is_open;
      made = subst (Makes (state store old).now) (sym shown.now_is) (written.made (omega (arith, committed.clean)));
    }
made_book store Makes old last end (Err _) written committed ok clean = tt

pub kept_book : {D : Type 0} (store : Ghosts D) (old start last end : Held D) (r : Result (Unit {0}) Error) → start ≡ record old { in_transaction = true }
    → (HasCleanDisk (state store last) → IsTrue last.in_transaction)
    → (HasCleanDisk (state store last) → KeepsCommit (state store start) (state store last))
    → Survives (state store last) (state store end) (λ db. db ≡ (state store last).now.trees)
    → (HasCleanDisk (state store end) → IfErr r (FailsToCommit (state store last) (state store end)))
    → HasCleanDisk (state store end) → OnErr r (KeepsCommitted (state store old) (state store end))
kept_book store old start last end (Ok _) begun inside kept committed err clean = tt
kept_book {D} store old start last end (Err e) begun inside kept committed err clean =
    let late : HasCleanDisk (state store last) = omega (arith, committed.clean) in
    let keeps = subst (λ (h : Held D). KeepsCommit (state store h) (state store last)) begun (kept late) in
    let still = inside late in
    elim (err clean) [
      | inl failed ↦
          let undone = failed.3 in
          record {
            autocommit = undone.autocommit;
            was_open = λ up. keeps.was_open (undone.was_open up);
            same = λ up.
                let back = undone.undone up in
                let same = keeps.committed (undone.was_open up) in
                (back.0 ∙ same, back.1 ∙ same);
          }
      | inr ended ↦ absurd (let is = ended.1 in cc)
    ]

pub keeps_or_makes : {D : Type 0} (store : Ghosts D) (Makes : Database → Database → Type 0) (old last end : Held D) → IsWritten store Makes old last
    → Survives (state store last) (state store end) (λ db. db ≡ (state store last).now.trees) → Survives (state store old) (state store end) (MayLeave Makes (state store old).now)
keeps_or_makes store Makes old last end written committed =
    survives_then (state store old) (state store last) (state store end) _ _ (MayLeave Makes (state store old).now) (λ _ db none. absurd none)
    (λ clean db is.
    let book = written.made (omega (arith, committed.clean)) in
    ((state store last).now.schema, subst (λ (t : Trees). Makes (state store old).now (record { schema = (state store last).now.schema; trees = t })) (sym is) book))
    written.survives committed

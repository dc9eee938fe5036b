use Rattle.std.proofs.Common.{◌≡◌, ◌==◌, inl, inr, cond, true, false, Bool, ap, eqb-true, Result, Ok, Err, Option, None, Some, IfErr, IfNone, IfOk, IfSome}
use Rattle.std.proofs.lemmas.Bool.{cases_Bool}
use Rattle.gi_store.specs.Book.{IsRead}
use Rattle.gi_store.specs.Copies.{BookCopyState, HoldsNone, IsCopyFault, IsCopyIn, TellsNone}
use Rattle.gi_store.specs.Heads.{none_by}
use Rattle.gi_store.specs.Rows.{SaysOwner}
use Rattle.gi_store.specs.Tables.{IsFree}
use Rattle.gi_store.specs.declared.head.Head.{Head}
use Rattle.gi_store.specs.declared.store_fault.StoreFault.{StoreFault}
use Rattle.gi_store.specs.declared.store_fault.StoreFault.TheVariants.{Lost}
use Rattle.gi_store.specs.declared.source.BookCopy.{BookCopy}
use Rattle.sqlite.specs.Files.{file_state}
use Rattle.gi_store.proofs.copies.book_of_copy.Goals as goal

-- what holds of a value under a premise
under : {T E : Type 0} (r : Result (Option T) E) (Premise : Type 0) (P Q : T → Type 0) → ((x : T) → (Premise → P x) → Q x)
    → (Premise → IfOk r (λ found. IfSome found P)) → IfOk r (λ found. IfSome found Q)
under (Ok (Some x)) Premise P Q then h = then x h
under (Ok None) Premise P Q then h = tt
under (Err e) Premise P Q then h = tt

pub returns-clause-copy : goal.returns-clause-copy
returns-clause-copy c =
    let found = c.in_ok-connection.ensures.found in
    let last = file_state c.read_copy-copy.new.connection in
    let state_of : BookCopy → BookCopyState = λ copy. record { owner = copy.owner; facts = copy.facts.items; log = copy.log } in
    under c.read_copy-copy.result _ (λ copy. IsRead last copy.facts.items × SaysOwner copy.owner last.now) (λ copy. IsCopyIn c.args.db.now c.args.log.now (state_of copy))
    (λ copy read. record {
      files = found.0;
      file = found.1;
      journal = found.2;
      opened = c.in_ok-connection.connection;
      read = c.read_copy-copy.new.connection;
      found = λ clean. (found.3 (c.read_copy-copy.ensures.early clean), c.read_copy-copy.ensures.kept clean, (read clean).0, (read clean).1);
    })
    c.read_copy-copy.ensures.copy

tells_none : {T : Type 0} (head : Option Head) → ◌≡◌ {A = Result (Option T) StoreFault} (Ok None) (none_by head) → TellsNone head
tells_none None is = tt
tells_none {T} (Some head) is = elim (cases_Bool (head.facts == 0)) [
  | inl none ↦ eqb-true head.facts 0 none
  | inr some ↦ absurd (let no : ◌≡◌ {A = Result (Option T) StoreFault} (Ok None) (Err (Lost head.facts)) = rw some at is in cc)
]

none_under : {T : Type 0} (r : Result (Option T) StoreFault) (head : Option Head) (Free Q : Type 0) → (Free → TellsNone head → Q)
    → IfOk r (λ found. IfNone found Free) → (Free → r ≡ none_by head) → IfOk r (λ found. IfNone found Q)
none_under (Ok None) head Free Q then free is = then free (tells_none head (is free))
none_under (Ok (Some x)) head Free Q then free is = tt
none_under (Err e) head Free Q then free is = tt

pub returns-clause-none : goal.returns-clause-none
returns-clause-none c =
    let found = c.in_ok-connection.ensures.found in
    let opened = c.in_ok-connection.connection in
    none_under c.read_copy-copy.result c.args.head (IsFree (file_state opened).now.schema) (HoldsNone c.args.head c.args.db.now c.args.log.now)
    (λ free told. record { files = found.0; file = found.1; journal = found.2; opened = opened; found = found.3; free = free; told = told })
    c.read_copy-copy.ensures.none c.read_copy-copy.ensures.free

-- there is the same fault of no book, whatever a book would be
same_fault : {X Y : Type 0} (head : Option Head) (why : StoreFault) → Err why ≡ none_by {X = X} head → Err why ≡ none_by {X = Y} head
same_fault {X} {Y} None why is = absurd cc
same_fault {X} {Y} (Some head) why is = by (head.facts == 0) is
  where
    by : (none : Bool) → ◌≡◌ {A = Result (Option X) StoreFault} (Err why) (cond none (Ok None) (Err (Lost head.facts))) → ◌≡◌ {A = Result (Option Y) StoreFault} (Err why) (cond none (Ok None) (Err (Lost head.facts)))
    by true is = absurd cc
    by false is = let same : why ≡ Lost head.facts = cc in ap Err same

-- what holds of a refusal under two premises
under_err : {T E : Type 0} (r : Result T E) (Premise : Type 0) (A P Q : E → Type 0) → ((e : E) → A e → (Premise → P e) → Q e) → IfErr r A → (Premise → IfErr r P) → IfErr r Q
under_err (Ok x) Premise A P Q then a h = tt
under_err (Err e) Premise A P Q then a h = then e a h

free_err : {T : Type 0} (r : Result (Option T) StoreFault) (head : Option Head) (Free : Type 0) → (Free → r ≡ none_by head) → IfErr r (λ why. Free → Err why ≡ none_by {X = BookCopyState} head)
free_err (Ok x) head Free h = tt
free_err (Err why) head Free h = λ free. same_fault head why (h free)

refused_under : {T E : Type 0} (r : Result T E) (Premise Taken : Type 0) (P : E → Type 0) → (Premise → Taken → IfErr r P) → Premise → IfErr r (λ e. Taken → P e)
refused_under (Ok x) Premise Taken P h clean = tt
refused_under (Err e) Premise Taken P h clean = λ taken. h clean taken

pub returns-clause-refused : goal.returns-clause-refused
returns-clause-refused c =
    let found = c.in_ok-connection.ensures.found in
    let first = file_state c.in_ok-connection.connection in
    let last = file_state c.read_copy-copy.new.connection in
    let Free = IsFree first.now.schema in
    under_err c.read_copy-copy.result _ (λ why. Free → Err why ≡ none_by {X = BookCopyState} c.args.head) (λ why. ¬ Free → IsCopyFault c.args.head first why) _
    (λ why free refused. inr (record {
      files = found.0;
      file = found.1;
      journal = found.2;
      opened = c.in_ok-connection.connection;
      read = c.read_copy-copy.new.connection;
      free = free;
      found = λ clean. (found.3 (c.read_copy-copy.ensures.early clean), c.read_copy-copy.ensures.kept clean, refused clean);
    }))
    (free_err c.read_copy-copy.result c.args.head Free c.read_copy-copy.ensures.free)
    (refused_under c.read_copy-copy.result _ (¬ Free) (λ why. IsCopyFault c.args.head first why) c.read_copy-copy.ensures.refused)

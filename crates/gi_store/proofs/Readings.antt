-- What the two queries of the book answer.
use Rattle.std.proofs.Common.{◌≡◌, ℕ, suc, ◌+◌, ◌<◌, ◌≤◌, ◌^◌, nat_le, codes, List, [], ◌∷◌, map, length, get_or, All, false, refl, sym, ap, subst, ◌∙◌, arith, drop, inl, inr, Ok, Err, Result, IfOk, IfErr, IsTrue}
use Rattle.std.specs.List.{flat_map, AllByRecursion}
use Rattle.std.specs.List.Sorted.{IsPermutation, IsSorted}
use Rattle.std.specs.Ordering.{is_lt}
use Rattle.std.proofs.lemmas.Bool.{cases_Bool}
use Rattle.sqlite_resolve.specs.declared.error.CompileError.TheVariants.{Mismatch}
use Rattle.std.proofs.lemmas.List.{get_or-map, length-map}
use Rattle.std.proofs.lemmas.List.Elements.{All-map}
use Rattle.std.proofs.lemmas.List.Concat.{flat_map_single}
use Rattle.std.proofs.lemmas.List.Sorted.{IsPermutation-map, IsPermutation-sym, All-permutation, sorted_far, ranks_by}
use Rattle.sqlite_value.specs.declared.value.Value.TheVariants.{Null}
use Rattle.sqlite_value.specs.Order.{Row, column, value_cmp}
use Rattle.sqlite_value.proofs.OrderLemmas.{value_cmp_total, then-Equal}
use Rattle.sqlite.specs.Query.{IsAnswer, output, output_cmp, Output}
use Rattle.sqlite.specs.Program.{overlay}
use Rattle.sqlite.specs.declared.error.Error.{Error}
use Rattle.sqlite.specs.Effect.{Database}
use Rattle.sqlite.specs.Listing.{understood}
use Rattle.sqlite.specs.Held.{Held, state}
use Rattle.sqlite.specs.Store.{Ghosts}
use Rattle.sqlite.specs.State.{State, HasCleanDisk, Survives, CommitsShowing, Shown}
use Rattle.sqlite.proofs.Callers.{reads_as, never_commits, one_permutation}
use Rattle.sqlite_trees.specs.Tree.{Trees}
use Rattle.gi_store.specs.Tables.{HasOwnerTable, HasTables, book_table, facts_table, owner_table, book_tree, facts_tree, owner_tree}
use Rattle.gi_store.specs.Rows.{IsOwned, both_columns, facts_in, names_in, versions_in, version_row, row_of}
use Rattle.gi_store.specs.Version.{version_number}
use Rattle.gi_store.specs.declared.version.BookVersion.{BookVersion}
use Rattle.gi_store.specs.declared.version.BookVersion.TheVariants.{One, Two}
use Rattle.gi_store.specs.Keeping.{AddsNoOutcome, IsBook, IsVersion, Keeps}
use Rattle.gi_store.proofs.Failures.{MayRun, not_both, shown_same}
use Rattle.gi_store.specs.Opening.{IsNameFault, IsVersionFault}
use Rattle.gi_store.specs.Order.{InOrder, ArePutInOrder}
use Rattle.gi_pairs.specs.Code.{IsCode}
use Rattle.gi_store.specs.declared.owner.Owner.{Owner}
use Rattle.gi_store.specs.Owner.{owner_text}
use Rattle.gi_store.specs.declared.store_fault.StoreFault.{StoreFault}
use Rattle.gi_store.specs.declared.store_fault.StoreFault.TheVariants.{Version}
use Rattle.gi_store.proofs.Texts.{read_version, read_name, read_facts, facts_query, version_query, IsQuery, MayAsk, version_asked, name_asked, facts_asked}
use Rattle.gi_store.proofs.Listed.{is_at}

pub map_twice : {X Y Z : Type 0} (f : Y → Z) (g : X → Y) (xs : List X) → map f (map g xs) ≡ map (λ x. f (g x)) xs
map_twice f g [] = refl
map_twice f g (x ∷ xs) = ap (λ ys. f (g x) ∷ ys) (map_twice f g xs)

pub whole : {X : Type 0} (xs : List X) → drop 0 xs ≡ xs
whole [] = refl
whole (x ∷ xs) = refl

pub staged_rows : (rows : List Row) → flat_map (λ r. ([] ∷ r ∷ []) ∷ []) rows ≡ map (λ r. [] ∷ r ∷ []) rows
staged_rows = flat_map_single (λ r. [] ∷ r ∷ [])

pub overlay_of : (db : Trees) (tree : ℕ) → overlay db [] tree ≡ db tree
overlay_of db tree = elim (cases_Bool (nat_le (2 ^ 31) tree)) [ inl high ↦ rw high refl | inr low ↦ rw low refl ]

not_shown : (sql : List ℕ) (old new : State) (rows : List Row) → understood old.now.schema sql ≡ Err Mismatch → Shown sql [] old new rows → ⊥
unfolding Shown
not_shown sql old new rows refused h = not_both old.now.schema sql h.0 refused h.1.is

-- the rows of a table that has all shown, in some order
plain_rows : (old new : State) (sql : List ℕ) (tree : ℕ) (names : List (List ℕ)) (rows : List Row) → IsQuery old.now.schema sql (version_query tree) names → Shown sql [] old new rows → IsPermutation (map both_columns (old.now.trees tree)) rows
plain_rows old new sql tree names rows asked h =
    let got = reads_as sql [] old new old.now.schema refl _ asked.command asked.plain asked.unlisted rows h in
    let a : IsAnswer (version_query tree) (overlay old.now.trees []) [] rows = got.answer Null in
    let staged : a.staged ≡ map (λ r. [] ∷ r ∷ []) (old.now.trees tree) = a.grouped ∙ (staged_rows (overlay old.now.trees [] tree) ∙ ap (map (λ r. [] ∷ r ∷ [])) (overlay_of old.now.trees tree)) in
    let kept : map (λ (o : Output). o.1) a.kept ≡ map both_columns (old.now.trees tree) =
    ap (map (λ (o : Output). o.1)) (a.distinct ∙ ap (map (output (version_query tree))) staged)
    ∙ (map_twice (λ (o : Output). o.1) (output (version_query tree)) _ ∙ map_twice (λ e. (output (version_query tree) e).1) (λ r. [] ∷ r ∷ []) (old.now.trees tree)) in
    let same = IsPermutation-map (λ (o : Output). o.1) a.kept a.ordered a.same in
    let shown : rows ≡ map (λ (o : Output). o.1) a.ordered = a.shown ∙ whole _ in
    subst (λ l. IsPermutation (map both_columns (old.now.trees tree)) l) (sym shown) (subst (λ l. IsPermutation l (map (λ (o : Output). o.1) a.ordered)) kept same)

pub version_place : (s : State) → HasTables s.now.schema → MayAsk s.now.schema read_version (version_query (book_tree s.now.schema)) (codes "id" ∷ codes "version" ∷ [])
version_place s has = version_asked s.now.schema (book_tree s.now.schema) (is_at s.now.schema (codes "book") (book_table (book_tree s.now.schema)) has.book)

pub facts_place : (s : State) → HasTables s.now.schema → MayAsk s.now.schema read_facts (facts_query (facts_tree s.now.schema)) (codes "n" ∷ codes "body" ∷ [])
facts_place s has = facts_asked s.now.schema (facts_tree s.now.schema) (is_at s.now.schema (codes "facts") (facts_table (facts_tree s.now.schema)) has.facts)

reads_version : (old new : State) (rows : List Row) → HasTables old.now.schema → Shown read_version [] old new rows → IsPermutation (versions_in old.now) rows
reads_version old new rows has h = elim (version_place old has) [
  | inl refused ↦ absurd (not_shown read_version old new rows refused.0 h)
  | inr asked ↦ plain_rows old new read_version (book_tree old.now.schema) _ rows asked h
]

pub name_place : (s : State) → HasOwnerTable s.now.schema → MayAsk s.now.schema read_name (version_query (owner_tree s.now.schema)) (codes "id" ∷ codes "name" ∷ [])
name_place s has = name_asked s.now.schema (owner_tree s.now.schema) (is_at s.now.schema (codes "owner") (owner_table (owner_tree s.now.schema)) has)

reads_name : (old new : State) (rows : List Row) → HasOwnerTable old.now.schema → Shown read_name [] old new rows → IsPermutation (names_in old.now) rows
reads_name old new rows has h = elim (name_place old has) [
  | inl refused ↦ absurd (not_shown read_name old new rows refused.0 h)
  | inr asked ↦ plain_rows old new read_name (owner_tree old.now.schema) _ rows asked h
]

-- ---- the order

-- what the query sorts a row by is what it shows first
abbrev IsKeyed : Output → Type 0
IsKeyed o = o.0 ≡ column o.1 0 ∷ []

keyed_rows : (tree : ℕ) (rows : List Row) → All IsKeyed (map (output (facts_query tree)) (map (λ r. [] ∷ r ∷ []) rows))
keyed_rows tree rows = All-map IsKeyed (output (facts_query tree)) (map (λ r. [] ∷ r ∷ []) rows) (All-map (λ e. IsKeyed (output (facts_query tree) e)) (λ r. [] ∷ r ∷ []) rows (λ k d low. refl))

far_order : (xs : List Row) → ((i j : ℕ) (d : Row) → i ≤ j → j < length xs → is_lt (value_cmp (column (get_or xs j d) 0) (column (get_or xs i d) 0)) ≡ false) → InOrder xs
far_order [] h = tt
far_order (x ∷ xs) h = (above xs (λ j d low. h 0 (suc j) d (omega arith) (omega arith)), far_order xs (λ i j d up low. h (suc i) (suc j) d (omega arith) (omega arith)))
  where
    above : (ys : List Row) → ((j : ℕ) (d : Row) → j < length ys → is_lt (value_cmp (column (get_or ys j d) 0) (column x 0)) ≡ false) → AllByRecursion (λ later. is_lt (value_cmp (column later 0) (column x 0)) ≡ false) ys
    above [] k = tt
    above (y ∷ ys) k = (k 0 y (omega arith), above ys (λ j d low. k (suc j) d (omega arith)))

shown_order : (tree : ℕ) (outs : List Output) → All IsKeyed outs → IsSorted (output_cmp (facts_query tree)) outs → InOrder (map (λ (o : Output). o.1) outs)
shown_order tree outs keyed sorted =
    far_order (map (λ (o : Output). o.1) outs) (sorted_far (λ a b. is_lt (value_cmp (column a 0) (column b 0))) (ranks_by value_cmp_total (λ r. column r 0)) (map (λ (o : Output). o.1) outs) near)
  where
    near : (k : ℕ) (d : Row) → 0 ≤ k → k + 1 < length (map (λ (o : Output). o.1) outs)
        → is_lt (value_cmp (column (get_or (map (λ (o : Output). o.1) outs) (k + 1) d) 0) (column (get_or (map (λ (o : Output). o.1) outs) k d) 0)) ≡ false
    near k d up low =
        let o : Output = (column d 0 ∷ [], d) in
        let within : k + 1 < length outs = omega (arith, length-map outs (λ (o : Output). o.1)) in
        let below : k < length outs = omega arith in
        let later = get_or-map (λ (o : Output). o.1) outs (k + 1) o d within in
        let first = get_or-map (λ (o : Output). o.1) outs k o d below in
        let key-later = keyed (k + 1) o within in
        let key-first = keyed k o below in
        let s = sorted k o up within in
        rw (later, first) (rw (key-later, key-first, then-Equal) at s)

fact_list : (old new : State) (tree : ℕ) (names : List (List ℕ)) (rows : List Row) → IsQuery old.now.schema read_facts (facts_query tree) names → Shown read_facts [] old new rows → ArePutInOrder (map both_columns (old.now.trees tree)) rows
fact_list old new tree names rows asked h =
    let got = reads_as read_facts [] old new old.now.schema refl _ asked.command asked.plain asked.unlisted rows h in
    let a : IsAnswer (facts_query tree) (overlay old.now.trees []) [] rows = got.answer Null in
    let staged : a.staged ≡ map (λ r. [] ∷ r ∷ []) (old.now.trees tree) = a.grouped ∙ (staged_rows (overlay old.now.trees [] tree) ∙ ap (map (λ r. [] ∷ r ∷ [])) (overlay_of old.now.trees tree)) in
    let all : a.kept ≡ map (output (facts_query tree)) (map (λ r. [] ∷ r ∷ []) (old.now.trees tree)) = a.distinct ∙ ap (map (output (facts_query tree))) staged in
    let kept : map (λ (o : Output). o.1) a.kept ≡ map both_columns (old.now.trees tree) =
    ap (map (λ (o : Output). o.1)) all ∙ (map_twice (λ (o : Output). o.1) (output (facts_query tree)) _ ∙ map_twice (λ e. (output (facts_query tree) e).1) (λ r. [] ∷ r ∷ []) (old.now.trees tree)) in
    let same = IsPermutation-map (λ (o : Output). o.1) a.kept a.ordered a.same in
    let shown : rows ≡ map (λ (o : Output). o.1) a.ordered = a.shown ∙ whole _ in
    let keyed : All IsKeyed a.ordered = All-permutation IsKeyed a.kept a.ordered a.same (subst (All IsKeyed) (sym all) (keyed_rows tree (old.now.trees tree))) in
    record {
      same = subst (λ l. IsPermutation (map both_columns (old.now.trees tree)) l) (sym shown) (subst (λ l. IsPermutation l (map (λ (o : Output). o.1) a.ordered)) kept same);
      order = subst InOrder (sym shown) (shown_order tree a.ordered keyed a.sorted);
    }

reads_facts : (old new : State) (rows : List Row) → HasTables old.now.schema → Shown read_facts [] old new rows → ArePutInOrder (facts_in old.now) rows
reads_facts old new rows has h = elim (facts_place old has) [
  | inl refused ↦ absurd (not_shown read_facts old new rows refused.0 h)
  | inr asked ↦ fact_list old new (facts_tree old.now.schema) _ rows asked h
]

-- ---- the answers

pub plain_version : (s : State) → HasTables s.now.schema → MayRun s.now.schema read_version
plain_version s has = elim (version_place s has) [ inl refused ↦ inl refused.0 | inr asked ↦ inr asked.plain ]

pub plain_name : (s : State) → HasOwnerTable s.now.schema → MayRun s.now.schema read_name
plain_name s has = elim (name_place s has) [ inl refused ↦ inl refused.0 | inr asked ↦ inr asked.plain ]

pub plain_facts : (s : State) → HasTables s.now.schema → MayRun s.now.schema read_facts
plain_facts s has = elim (facts_place s has) [ inl refused ↦ inl refused.0 | inr asked ↦ inr asked.plain ]

pub version_answer : (old new : State) {X : Type 0} (items : X → List Row) (r : Result X Error) → HasTables old.now.schema → IfOk r (λ x. Shown read_version [] old new (items x)) → IfOk r (λ x. IsPermutation (versions_in new.now) (items x))
version_answer old new items (Ok x) has h =
    let same = shown_same old new read_version [] (items x) (plain_version old has) h in
    subst (λ (d : Database). IsPermutation (versions_in d) (items x)) (sym same.0.now_is) (reads_version old new (items x) has h)
version_answer old new items (Err e) has h = tt

pub name_answer : (old new : State) {X : Type 0} (items : X → List Row) (r : Result X Error) → HasOwnerTable old.now.schema → IfOk r (λ x. Shown read_name [] old new (items x)) → IfOk r (λ x. IsPermutation (names_in new.now) (items x))
name_answer old new items (Ok x) has h =
    let same = shown_same old new read_name [] (items x) (plain_name old has) h in
    subst (λ (d : Database). IsPermutation (names_in d) (items x)) (sym same.0.now_is) (reads_name old new (items x) has h)
name_answer old new items (Err e) has h = tt

pub facts_answer : (old new : State) {X : Type 0} (items : X → List Row) (r : Result X Error) → HasTables old.now.schema → IfOk r (λ x. Shown read_facts [] old new (items x)) → IfOk r (λ x. ArePutInOrder (facts_in new.now) (items x))
facts_answer old new items (Ok x) has h =
    let same = shown_same old new read_facts [] (items x) (plain_facts old has) h in
    subst (λ (d : Database). ArePutInOrder (facts_in d) (items x)) (sym same.0.now_is) (reads_facts old new (items x) has h)
facts_answer old new items (Err e) has h = tt

no_commit : (sql : List ℕ) (params : Row) (s : State) (db : Trees) → MayRun s.now.schema sql → ¬ CommitsShowing sql params s db
unfolding CommitsShowing
no_commit sql params s db (inl refused) h = not_both s.now.schema sql h.0 refused h.1.is
no_commit sql params s db (inr plain) h = never_commits sql params s db plain h

pub adds_nothing : (sql : List ℕ) (params : Row) (old new : State) → MayRun old.now.schema sql → Survives old new (CommitsShowing sql params old) → HasCleanDisk new → AddsNoOutcome old new
adds_nothing sql params old new plain survives clean db leaves = elim (survives.crash clean db leaves) [ inl was ↦ was | inr commits ↦ absurd (no_commit sql params old db plain commits) ]

-- ---- the one row of the version

pub version_read : {S : Type 0} (g : Ghosts S) (old new : Held S) (rows : List Row) (r : Result BookVersion StoreFault) → Keeps (state g old) (state g new) → IsTrue (state g new).is_open → HasTables old.schema
    → IsPermutation (versions_in (state g new).now) rows → IfOk r (λ version. rows ≡ version_row (version_number version) ∷ []) → IfOk r (λ version. IsTrue (state g new).is_open × IsVersion (version_number version) (state g new).now)
version_read g old new rows (Ok version) kept up has same is = (
  up,
  record {
    tables = subst (λ (d : Database). HasTables d.schema) (sym (kept.same up)) has;
    version = one_permutation (version_row (version_number version)) (versions_in (state g new).now) (IsPermutation-sym _ _ (subst (λ l. IsPermutation (versions_in (state g new).now) l) is same));
  },
)
version_read g old new rows (Err fault) kept up has same is = tt

-- the one row is neither version's
no_version : (rows : List Row) (db : Database) → IsPermutation (versions_in db) rows → ((version : BookVersion) → ¬ (rows ≡ version_row (version_number version) ∷ [])) → ¬ IsBook db
no_version rows db same missed book = elim book.version [
  | inl one ↦ missed One (one_permutation (version_row 1) rows (subst (λ l. IsPermutation l rows) one same))
  | inr two ↦ missed Two (one_permutation (version_row 2) rows (subst (λ l. IsPermutation l rows) two same))
]

pub version_missed : {S : Type 0} (g : Ghosts S) (old new : Held S) (rows : List Row) (r : Result BookVersion StoreFault) → Keeps (state g old) (state g new) → IsTrue (state g new).is_open → IsPermutation (versions_in (state g new).now) rows
    → IfErr r (λ fault. (fault ≡ Version) × ((version : BookVersion) → ¬ (rows ≡ version_row (version_number version) ∷ []))) → IfErr r (IsVersionFault (state g old))
version_missed g old new rows (Ok version) kept up same missed = tt
version_missed g old new rows (Err fault) kept up same missed = subst (IsVersionFault (state g old)) (sym missed.0)
    (no_version rows (state g old).now (subst (λ l. IsPermutation l rows) (ap (λ (d : Database). versions_in d) (kept.same up)) same) missed.1)

-- ---- the one row of the owner

pub name_read : {S : Type 0} (g : Ghosts S) (old new : Held S) (rows : List Row) (r : Result Owner StoreFault) → Keeps (state g old) (state g new) → IsTrue (state g new).is_open → HasOwnerTable old.schema
    → IsPermutation (names_in (state g new).now) rows → IfOk r (λ owner. IsCode owner.point × (rows ≡ row_of 1 (owner_text owner) ∷ []))
    → IfOk r (λ owner. IsTrue (state g new).is_open × IsOwned owner (state g new).now)
name_read g old new rows (Ok owner) kept up has same is = (
  up,
  record {
    table = subst (λ (d : Database). HasOwnerTable d.schema) (sym (kept.same up)) has;
    row = one_permutation (row_of 1 (owner_text owner)) (names_in (state g new).now) (IsPermutation-sym _ _ (subst (λ l. IsPermutation (names_in (state g new).now) l) is.1 same));
  },
)
name_read g old new rows (Err fault) kept up has same is = tt

pub name_missed : {S : Type 0} (g : Ghosts S) (old new : Held S) (rows : List Row) (r : Result Owner StoreFault) → Keeps (state g old) (state g new) → IsTrue (state g new).is_open → IsPermutation (names_in (state g new).now) rows
    → IfErr r (λ fault. (fault ≡ Version) × ((owner : Owner) → IsCode owner.point → ¬ (rows ≡ row_of 1 (owner_text owner) ∷ []))) → IfErr r (IsNameFault (state g old))
name_missed g old new rows (Ok owner) kept up same missed = tt
name_missed g old new rows (Err fault) kept up same missed = subst (IsNameFault (state g old)) (sym missed.0) (λ owner code owned. missed.1 owner code
    (one_permutation (row_of 1 (owner_text owner)) rows (subst (λ l. IsPermutation l rows) (ap (λ (d : Database). names_in d) (kept.same up) ∙ owned.row) same)))

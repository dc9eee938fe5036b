-- Where a table is listed, also once others are listed after it.
use Rattle.std.proofs.Common.{◌≡◌, inl, inr, ℕ, zero, suc, ◌+◌, List, [], ◌∷◌, ◌++◌, length, Bool, true, false, not, ◌&&◌, ◌||◌, Option, None, Some, slice_get, option_and_then, is_some, codes, refl, sym, ap, ◌∙◌, arith}
use Rattle.std.specs.List.{position_from, list_any}
use Rattle.std.proofs.lemmas.Bool.{cases_Bool}
use Rattle.sqlite_schema.specs.declared.schema.Table.{Table}
use Rattle.sqlite_schema.specs.declared.schema.Schema.{Schema}
use Rattle.sqlite_schema.specs.Names.{same_name, table_named}
use Rattle.sqlite_rules.specs.Lists.{Has}
use Rattle.sqlite.specs.Does.{lacks_sequence}
use Rattle.sqlite.specs.Rows.{sequence}
use Rattle.gi_store.specs.Tables.{table_at, tree_of}

pub stays : {X : Type 0} (test : X → Bool) (k : ℕ) (xs ys : List X) (at : ℕ) → position_from test k xs ≡ Some at → position_from test k (xs ++ ys) ≡ Some at
stays test k [] ys at h = absurd cc
stays test k (x ∷ xs) ys at h = elim (cases_Bool (test x)) [
  | inl hit ↦ rw hit (rw hit at h)
  | inr miss ↦ rw miss (stays test (k + 1) xs ys at (rw miss at h))
]

pub comes_next : {X : Type 0} (test : X → Bool) (k : ℕ) (xs : List X) (y : X) (ys : List X) → position_from test k xs ≡ None → test y ≡ true → position_from test k (xs ++ y ∷ ys) ≡ Some (k + length xs)
comes_next test k [] y ys h is = rw is (ap Some (omega arith))
comes_next test k (x ∷ xs) y ys h is = elim (cases_Bool (test x)) [
  | inl hit ↦ absurd (let e = rw hit at h in cc)
  | inr miss ↦ rw miss (comes_next test (k + 1) xs y ys (rw miss at h) is ∙ ap Some (omega arith))
]

pub stays_away : {X : Type 0} (test : X → Bool) (k : ℕ) (xs : List X) (y : X) → position_from test k xs ≡ None → test y ≡ false → position_from test k (xs ++ y ∷ []) ≡ None
stays_away test k [] y h is = rw is refl
stays_away test k (x ∷ xs) y h is = elim (cases_Bool (test x)) [
  | inl hit ↦ absurd (let e = rw hit at h in cc)
  | inr miss ↦ rw miss (stays_away test (k + 1) xs y (rw miss at h) is)
]

pub get_left : {X : Type 0} (xs ys : List X) (at : ℕ) (x : X) → slice_get xs at ≡ Some x → slice_get (xs ++ ys) at ≡ Some x
get_left [] ys at x h = absurd cc
get_left (y ∷ xs) ys zero x h = h
get_left (y ∷ xs) ys (suc at) x h = get_left xs ys at x h

pub get_next : {X : Type 0} (xs : List X) (y : X) (ys : List X) → slice_get (xs ++ y ∷ ys) (length xs) ≡ Some y
get_next [] y ys = refl
get_next (x ∷ xs) y ys = get_next xs y ys

any_next : {X : Type 0} (test : X → Bool) (xs : List X) (y : X) → test y ≡ false → list_any test (xs ++ y ∷ []) ≡ list_any test xs
any_next test [] y is = rw is refl
any_next test (x ∷ xs) y is = ap (λ b. test x || b) (any_next test xs y is)

-- ---- the table of a name

at_once : {X Y : Type 0} (o : Option X) (f : X → Option Y) (y : Y) → option_and_then f o ≡ Some y → (x : X) × (o ≡ Some x) × (f x ≡ Some y)
at_once None f y h = absurd cc
at_once (Some x) f y h = (x, refl, h)

pub record IsAt (schema : Schema) (name : List ℕ) (table : Table) : Type 0 where
  pub at : ℕ
  pub named : table_named schema name ≡ Some at
  pub found : slice_get schema.tables at ≡ Some table

pub is_at : (schema : Schema) (name : List ℕ) (table : Table) → table_at schema name ≡ Some table → IsAt schema name table
unfolding table_at
is_at schema name table h = let it = at_once (table_named schema name) (slice_get schema.tables) table h in record { at = it.0; named = it.1; found = it.2 }

pub at_is : (schema : Schema) (name : List ℕ) (table : Table) → IsAt schema name table → table_at schema name ≡ Some table
unfolding table_at
at_is schema name table it = rw it.named it.found

has_at : {X : Type 0} (xs : List X) (at : ℕ) (x : X) → slice_get xs at ≡ Some x → Has xs x
has_at [] at x h = absurd cc
has_at (y ∷ xs) zero x h = inl (let same : y ≡ x = cc in sym same)
has_at (y ∷ xs) (suc at) x h = inr (has_at xs at x h)

pub is_listed : (schema : Schema) (name : List ℕ) (table : Table) → IsAt schema name table → Has schema.tables table
is_listed schema name table it = has_at schema.tables it.at table it.found

pub tree_is : (schema : Schema) (name : List ℕ) (table : Table) → table_at schema name ≡ Some table → tree_of schema name ≡ table.tree
unfolding tree_of
tree_is schema name table h = rw h refl

-- ---- a table more

abbrev pub more : Schema → List Table → Schema
more schema tables = record schema { tables = schema.tables ++ tables }

pub listed_still : (schema : Schema) (tables : List Table) (name : List ℕ) (table : Table) → IsAt schema name table → IsAt (more schema tables) name table
listed_still schema tables name table it = record {
  at = it.at;
  named = stays (λ t. same_name t.name name) 0 schema.tables tables it.at it.named;
  found = get_left schema.tables tables it.at table it.found;
}

pub listed_next : (schema : Schema) (name : List ℕ) (table : Table) → table_named schema name ≡ None → same_name table.name name ≡ true → IsAt (more schema (table ∷ [])) name table
listed_next schema name table none is = record {
  at = length schema.tables;
  named = comes_next (λ t. same_name t.name name) 0 schema.tables table [] none is ∙ ap Some (omega arith);
  found = get_next schema.tables table [];
}

pub unlisted_still : (schema : Schema) (name : List ℕ) (table : Table) → table_named schema name ≡ None → same_name table.name name ≡ false → table_named (more schema (table ∷ [])) name ≡ None
unlisted_still schema name table none is = stays_away (λ t. same_name t.name name) 0 schema.tables table none is

kept_some : {X : Type 0} (o p : Option X) → ((x : X) → o ≡ Some x → p ≡ Some x) → is_some o ≡ true → is_some p ≡ true
kept_some None p so h = absurd cc
kept_some (Some x) p so h = rw (so x refl) refl

pub counts_still : (schema : Schema) (table : Table) → table.is_counted ≡ false → lacks_sequence schema ≡ false → lacks_sequence (more schema (table ∷ [])) ≡ false
counts_still schema table is lacks = rw (any_next (λ t. t.is_counted) schema.tables table is) (by (list_any (λ t. t.is_counted) schema.tables) (is_some (sequence schema)) (is_some (sequence (more schema (table ∷ [])))) lacks there)
  where
    by : (any old new : Bool) → (any && not old) ≡ false → (old ≡ true → new ≡ true) → (any && not new) ≡ false
    by false old new h so = refl
    by true true new h so = rw (so refl) refl
    by true false new h so = absurd cc

    there : is_some (sequence schema) ≡ true → is_some (sequence (more schema (table ∷ []))) ≡ true
    there = kept_some (sequence schema) (sequence (more schema (table ∷ []))) (λ t h.
        let it = at_once (table_named schema (codes "sqlite_sequence")) (slice_get schema.tables) t h in
        rw (stays (λ u. same_name u.name (codes "sqlite_sequence")) 0 schema.tables (table ∷ []) it.0 it.1) (get_left schema.tables (table ∷ []) it.0 t it.2))

-- A table and itself are equal.
use Rattle.std.proofs.Common.{◌≡◌, List, [], ◌∷◌, true, ◌&&◌, nat_eq, refl, eq-eqb}
use Rattle.std.specs.Cmp.Lexicographic.{pointwise}
use Rattle.std.proofs.lemmas.Bool.{and_from}
use Rattle.gi_pairs.specs.Row.{row_eq}
use Rattle.gi_pairs.specs.Table.{HasShapeOf, TableContents, same_hours, table_eq}
use Rattle.gi_pairs.specs.declared.row.Row.{Row}
use Rattle.gi_desk.proofs.Differing.{row-self}

rows_self : (rows : List Row) → pointwise row_eq rows rows ≡ true
rows_self [] = refl
rows_self (row ∷ rows) = and_from (row_eq row row) (pointwise row_eq rows rows) (row-self row) (rows_self rows)

-- for the same hours
pub hours-same : (a b : TableContents) → HasShapeOf a b → same_hours a b ≡ true
hours-same a b shape = and_from (nat_eq a.first b.first) (nat_eq a.last b.last) (eq-eqb a.first b.first shape.first) (eq-eqb a.last b.last shape.last)

pub table-self : (t : TableContents) → table_eq t t ≡ true
table-self t =
    and_from (nat_eq t.first t.first && nat_eq t.last t.last) (pointwise row_eq t.rows t.rows)
    (and_from (nat_eq t.first t.first) (nat_eq t.last t.last) (eq-eqb t.first t.first refl) (eq-eqb t.last t.last refl)) (rows_self t.rows)

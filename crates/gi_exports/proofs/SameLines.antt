-- The lines of the text reports, one for each exported line.
use Rattle.std.proofs.Common.{◌≡◌, ℕ, List, [], ◌∷◌, ◌++◌, Option, Some, None, refl, sym, ◌∙◌}
use Rattle.std.specs.List.{enumerate_from, flat_map}
use Rattle.std.proofs.lemmas.List.Concat.{flat_map-append}
use Rattle.std.proofs.lemmas.List.Folds.{flat_map-map}
use Rattle.gi_pairs.specs.Table.{TableContents}
use Rattle.gi_pairs.specs.declared.cycle_id.CycleId.{CycleId}
use Rattle.gi_pairs.specs.declared.row.Row.{Row}
use Rattle.gi_pairs.specs.declared.side.Side.{Side}
use Rattle.gi_desk.specs.Machine.{DeskState}
use Rattle.gi_desk.specs.Queries.{confirmed}
use Rattle.gi_reports.specs.Confirmed.{confirmed_lines, lines_if, row_lines, table_lines}
use Rattle.gi_exports.specs.Laws.{hour_line}
use Rattle.gi_exports.specs.Lines.{hour_of, hours_if, hours_of, row_hours, table_hours}

nested : {X Y A : Type 0} (f : X → List A) (g : X → List Y) (h : Y → List A) → ((x : X) → f x ≡ flat_map h (g x)) → (xs : List X) → flat_map f xs ≡ flat_map h (flat_map g xs)
nested f g h same [] = refl
nested f g h same (x ∷ xs) = (λ t. same x t ++ nested f g h same xs t) ∙ sym (flat_map-append h (g x) (flat_map g xs))

row_same : (id : CycleId) (first : ℕ) (row : Row) → row_lines id first row ≡ flat_map hour_line (row_hours id first row)
row_same id first row = sym (flat_map-map hour_line (λ (counted : ℕ × ℕ). hour_of id row counted.0 counted.1) (enumerate_from first row.hours))

table_same : (id : CycleId) (table : TableContents) → table_lines id table ≡ flat_map hour_line (table_hours id table)
table_same id table = nested (row_lines id table.first) (row_hours id table.first) hour_line (row_same id table.first) table.rows

same_if : (id : CycleId) (o : Option TableContents) → lines_if id o ≡ flat_map hour_line (hours_if id o)
same_if id None = refl
same_if id (Some table) = table_same id table

pub hours_same : (side : Side) (s : DeskState) (ids : List CycleId) → confirmed_lines side s ids ≡ flat_map hour_line (hours_of side s ids)
hours_same side s ids = nested (λ id. lines_if id (confirmed side s id)) (λ id. hours_if id (confirmed side s id)) hour_line (λ id. same_if id (confirmed side s id)) ids

use Rattle.std.proofs.Common.{List, sym, subst}
use Rattle.gi_pairs.specs.Table.{IsTable}
use Rattle.gi_pairs.specs.TableRepr.{contents}
use Rattle.gi_pairs.specs.declared.row.Row.{Row}
use Rattle.gi_pairs.proofs.Slices.{slice-is_table}
use Rattle.gi_pairs.proofs.table.Table.slice.Goals as goal

pub invariant_of-result : goal.invariant_of-result
invariant_of-result c =
    let inside = c.self.inside in
    subst (λ (rows : List Row). IsTable (record { first = inside.first; last = inside.last; rows = rows })) (sym c.in_ok-slice.ensures)
    (slice-is_table c.args.from c.args.most (contents inside) c.self.invariant)

use Rattle.std.proofs.Common.{◌≡◌, ◌<◌, List, arith, get_or, length, sym, subst}
use Rattle.std.specs.Prelude.{None}
use Rattle.gi_pairs.specs.declared.row.Row.{Row}
use Rattle.gi_schedule.proofs.KeyLemmas.{row_more, with_none}
use Rattle.gi_page.proofs.keys.add_rows.Goals as goal

pub loop-row-init : goal.loop-row-init
loop-row-init c = record { added = sym (with_none c.args.keys.now.keys); few = omega arith }

pub loop-row-preserved : goal.loop-row-preserved
loop-row-preserved c = record {
  added = row_more None c.args.table.now.rows c.loop-row.row-index c.row-item.result c.args.keys.now.keys c.loop-row.keys.keys c.add_row.new.keys.keys
      (subst (λ (l : List Row). c.loop-row.row-index < length l) c.rows-row-items.ensures.rows c.loop-row-test.true)
      (subst (λ (l : List Row). c.row-item.result ≡ get_or l c.loop-row.row-index c.row-item.result) c.rows-row-items.ensures.rows c.row-item.is)
      c.loop-row.invariant.added c.in_ok-add_row.ensures.added;
  few = omega (arith, c.loop-row.invariant.few, c.in_ok-add_row.ensures.few);
}

use Rattle.std.proofs.Common.{◌≡◌, ◌<◌, List, get_or, length, subst}
use Rattle.gi_pairs.specs.declared.row.Row.{Row}
use Rattle.gi_schedule.specs.Cuts.{row_cuts}
use Rattle.gi_schedule.proofs.LineLemmas.{items_more}
use Rattle.gi_schedule.proofs.cuts.add_rows.Goals as goal

pub loop-row-preserved : goal.loop-row-preserved
loop-row-preserved g c =
    let tables = c.args.tables.now in
    let rows = c.rows-row-items.ensures.rows in
    items_more (row_cuts g.R.Role.SIDE c.args.desk.now c.args.wanted.now c.args.id.now tables.own.now tables.peer.now tables.confirmed.now) tables.own.now.rows c.loop-row.row-index c.row-item.result
    c.args.lines.now.items c.loop-row.lines.items c.add_row.new.lines.items
    (subst (λ (l : List Row). c.loop-row.row-index < length l) rows c.loop-row-test.true)
    (subst (λ (l : List Row). c.row-item.result ≡ get_or l c.loop-row.row-index c.row-item.result) rows c.row-item.is)
    c.loop-row.invariant c.in_ok-add_row.ensures

use Rattle.std.proofs.Common.{◌<◌, List, length, ap, subst, ◌∙◌}
use Rattle.gi_pairs.specs.declared.row.Row.{Row}
use Rattle.gi_pairs.specs.Table.{TableContents}
use Rattle.gi_desk.proofs.Called.{if_failed}
use Rattle.gi_desk.proofs.Leaving.{some-portfolio, told-leave}
use Rattle.gi_desk.proofs.telling.told_packets.Goals as goal

pub returns-in_err-portfolios-clause-short : goal.returns-in_err-portfolios-clause-short
returns-in_err-portfolios-clause-short c =
    let rows = c.rows.ensures.rows ∙ ap (λ (table : TableContents). table.rows) c.confirmed.ensures.kept in
    let some = subst (λ (rows : List Row). 0 < length rows) rows c.in_err-portfolios.ensures.short in
    if_failed c.from_residual.result (told-leave c.args.side c.args.point c.args.cycle.now (some-portfolio c.args.side c.args.cycle.now.confirmed.rows some))

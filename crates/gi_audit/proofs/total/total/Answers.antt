use Rattle.std.proofs.Common.{◌≡◌, ◌<◌, ◌+◌, ◌^◌, ◌∙◌, List, ap, arith, get_or, length, subst, take}
use Rattle.std.specs.List.{sum_by}
use Rattle.gi_pairs.specs.declared.row.Row.{Row}
use Rattle.gi_audit.specs.Finding.{row_total}
use Rattle.gi_audit.proofs.TotalLemmas.{row_hours, rows_fit}
use Rattle.gi_audit.proofs.total.total.Goals as goal

pub row_total-total-requires : goal.row_total-total-requires
row_total-total-requires c =
    let t = c.args.table.now in
    let i = c.loop-row.row-index in
    let same = c.rows-row-items.ensures.rows in
    let row = c.row-item.result in
    let below = subst (λ (rows : List Row). i < length rows) same c.loop-row-test.true in
    row_hours t i row c.rows-row-items.ensures.table below (c.row-item.is ∙ ap (λ (rows : List Row). get_or rows i row) same)

pub overflow_add-total : goal.overflow_add-total
overflow_add-total c =
    let t = c.args.table.now in
    let i = c.loop-row.row-index in
    let same = c.rows-row-items.ensures.rows in
    let row = c.row-item.result in
    let below = subst (λ (rows : List Row). i < length rows) same c.loop-row-test.true in
    let read = c.row-item.is ∙ ap (λ (rows : List Row). get_or rows i row) same in
    let so_far : c.loop-row.total ≡ sum_by (row_total c.args.direction) (take i t.rows) = c.loop-row.invariant ∙ ap (λ (rows : List Row). sum_by (row_total c.args.direction) (take i rows)) same in
    let fit : sum_by (row_total c.args.direction) (take i t.rows) + c.row_total-total.result < 2 ^ 64 =
    rows_fit c.args.direction t i c.row_total-total.result row c.rows-row-items.ensures.table below (c.row_total-total.ensures ∙ ap (row_total c.args.direction) read) in
    let fits : c.loop-row.total + c.row_total-total.result < 2 ^ 64 = omega (arith, fit, so_far) in
    grind (arith, fits)

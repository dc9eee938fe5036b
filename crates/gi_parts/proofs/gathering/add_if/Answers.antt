use Rattle.std.proofs.Common.{◌++◌, ◌∙◌, List, append-nil, ap, sym}
use Rattle.gi_pairs.specs.declared.row.Row.{Row}
use Rattle.gi_parts.specs.Parts.{is_of}
use Rattle.gi_parts.proofs.GatheringLaws.{if_of, if_other, is_not_so, is_so, more_fit, on_ok}
use Rattle.gi_parts.proofs.gathering.add_if.Goals as goal

pub returns-then-ne-clause-rows : goal.returns-then-ne-clause-rows
returns-then-ne-clause-rows c =
    let none = if_other c.args.array c.args.id.now c.args.one.now (is_not_so (is_of c.args.id.now c.args.one.now) c.if-ne.ensures) in
    sym (ap (λ (rows : List Row). c.args.rows.now.items ++ rows) none ∙ append-nil c.args.rows.now.items)

pub returns-then-ne-clause-fit : goal.returns-then-ne-clause-fit
returns-then-ne-clause-fit c = λ own for fit. fit

pub returns-clause-rows : goal.returns-clause-rows
returns-clause-rows c =
    let some = if_of c.args.array c.args.id.now c.args.one.now (is_so (is_of c.args.id.now c.args.one.now) c.if-ne.ensures) in
    on_ok c.add_rows.result (λ added. added ∙ ap (λ (rows : List Row). c.args.rows.now.items ++ rows) (c.rows.ensures.rows ∙ sym some)) c.add_rows.ensures

pub returns-clause-fit : goal.returns-clause-fit
returns-clause-fit c = λ own for fit.
    on_ok c.add_rows.result (λ added. more_fit own c.args.rows.now.items c.rows.result.now _ added fit (c.rows.ensures.fit own (for (is_so (is_of c.args.id.now c.args.one.now) c.if-ne.ensures))))
    c.add_rows.ensures

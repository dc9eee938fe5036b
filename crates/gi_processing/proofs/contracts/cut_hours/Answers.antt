use Rattle.std.proofs.Common.{◌∙◌, Some, Result, Ok, Err, OnErr, ap, subst}
use Rattle.std.specs.BTreeMap.{Updates, get}
use Rattle.gi_processing.specs.Kept.{left_in, notice_cmp}
use Rattle.gi_processing.specs.declared.notice_key.NoticeKey.{NoticeKey}
use Rattle.gi_processing.proofs.KeptLaws.{rows-cut}
use Rattle.gi_processing.proofs.contracts.cut_hours.Goals as goal

pub returns-clause-cut : goal.returns-clause-cut
returns-clause-cut c =
    let old = c.args.rows.now in
    let updates : Updates notice_cmp old c.insert.new.self c.key-key.result (Some c.cut-row.result) = c.in_ok-insert.ensures.updates in
    rows-cut old c.insert.new.self c.args.notice.now c.hours_of.result c.cut-row.result
    (λ hour. c.hours_of.ensures hour ∙ ap (λ (k : NoticeKey). left_in (get notice_cmp old k) hour) c.key-key.ensures) c.cut-row.ensures
    (subst (λ (k : NoticeKey). Updates notice_cmp old c.insert.new.self k (Some c.cut-row.result)) c.key-key.ensures updates)

on_err : {T E P : Type 0} (r : Result T E) → P → OnErr r P
on_err (Ok x) p = tt
on_err (Err e) p = p

pub returns-in_err-insert-clause-unchanged : goal.returns-in_err-insert-clause-unchanged
returns-in_err-insert-clause-unchanged c = on_err _ c.in_err-insert.ensures.err

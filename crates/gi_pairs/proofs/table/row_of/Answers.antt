use Rattle.std.proofs.Common.{rules, sym}
use Rattle.std.proofs.lemmas.List.Sorted.{answers_always}
use Rattle.gi_pairs.specs.Row.{key_of}
use Rattle.gi_pairs.proofs.Reading.{find_found, find_missed, searchable}
use Rattle.gi_pairs.proofs.table.row_of.Goals as goal

pub returns-in-Ok : goal.returns-in-Ok
returns-in-Ok c =
    let equal = c.in-Ok.ensures.position key_of (answers_always _ _ _ (λ f a r g called. search rules)) in
    let row = c.index-rows-place.result in
    sym (find_found c.args.rows.now c.args.key c.in-Ok.place row c.requires c.in-Ok.ensures.bound c.index-rows-place.is equal)

pub returns-in-Err : goal.returns-in-Err
returns-in-Err c =
    let point = c.in-Err.ensures.position key_of (answers_always _ _ _ (λ f a r g called. search rules)) in
    sym (find_missed c.args.rows.now c.args.key c.in-Err.field-0 (point (searchable c.args.rows.now c.args.key c.requires)))

use Rattle.std.proofs.Common.{rules}
use Rattle.std.proofs.lemmas.List.Sorted.{answers_always}
use Rattle.gi_pairs.specs.Row.{key_of}
use Rattle.gi_pairs.proofs.Reading.{searchable}
use Rattle.gi_lesser.proofs.PartLaws.{place_found, place_missed}
use Rattle.gi_lesser.proofs.parallel.place_of.Goals as goal

pub returns-in-Ok-clause-value : goal.returns-in-Ok-clause-value
returns-in-Ok-clause-value c =
    place_found c.args.rows.now c.args.key c.in-Ok.place c.requires c.in-Ok.ensures.bound (c.in-Ok.ensures.position key_of (answers_always _ _ _ (λ f a r g called. search rules)))

pub returns-in-Err-clause-value : goal.returns-in-Err-clause-value
returns-in-Err-clause-value c =
    let point = c.in-Err.ensures.position key_of (answers_always _ _ _ (λ f a r g called. search rules)) (searchable c.args.rows.now c.args.key c.requires) in
    place_missed c.args.rows.now c.args.key c.in-Err.place c.in-Err.ensures.bound point.0 point.1

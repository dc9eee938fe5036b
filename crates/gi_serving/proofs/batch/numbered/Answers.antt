use Rattle.std.proofs.Common.{refl, map}
use Rattle.gi_serving.specs.Submitting.{SessionsMake, dealt_to_all, in_order}
use Rattle.gi_serving.proofs.Asked.{both_known}
use Rattle.gi_serving.proofs.Dealing.{sessions_make}
use Rattle.gi_serving.proofs.batch.numbered.Goals as goal

pub returns-clause-all : goal.returns-clause-all
returns-clause-all g c =
    let side = g.R.Role.SIDE in
    let sessions = c.args.sessions in
    let numbers = c.args.numbers.now in
    let bodies = c.args.bodies.now in
    let old = c.args.seats.items in
    let given = dealt_to_all sessions numbers bodies in
    let served = c.in_ok-served.served in
    let receipts = map in_order served.1.items in
    both_known c.told.result _ _ (λ told. SessionsMake side sessions bodies old told.1.items told.0.items)
    (λ told seats words. sessions_make side sessions bodies numbers given old receipts told.1.items told.0.items c.requires.numbers refl (rw seats c.in_ok-served.ensures.done) words)
    c.told.ensures.seats c.told.ensures.words

use Rattle.std.proofs.Common.{rules, ◌≡◌, IfOk, IsOk, OnOk, refl}
use Rattle.std.proofs.lemmas.Result.{IfOk-weaker}
use Rattle.gi_pairs.specs.declared.side.Side.TheVariants.{I, M}
use Rattle.gi_serving.specs.Asking.{NotesMarks}
use Rattle.gi_serving.specs.Ending.{AreSamePlaces, place_of}
use Rattle.gi_serving.specs.Submitting.{SessionsMake, SubmitsBatch}
use Rattle.gi_serving.proofs.Asked.{known_too}
use Rattle.gi_serving.proofs.Dealing.{main_submits}
use Rattle.gi_serving.proofs.Faulting.{both_kept, tells_refused, tells_so, well_so}
use Rattle.gi_serving.proofs.Places.{with_main}
use Rattle.gi_serving.proofs.at_once.at_once.Goals as goal

pub returns-clause-cut : goal.returns-clause-cut
returns-clause-cut g c = c.whole.ensures.cut

pub returns-clause-places : goal.returns-clause-places
returns-clause-places g c =
    let others = c.parted-seats.result.0.items in
    let main = c.parted-seats.result.1 in
    let after = c.joined-saved.result.0.0 in
    let submitted = c.joined-saved.result.1.0 in
    let same : IfOk submitted (λ it. AreSamePlaces others it.0.items) = search rules in
    let last : place_of after ≡ place_of main = search rules in
    IfOk-weaker c.whole.result _ _
    (λ both has. with_main submitted c.args.seats.items others both.0.0.items both.0.1.items main after c.parted-seats.ensures same last has)
    c.whole.ensures.ours

pub returns-clause-submits : goal.returns-clause-submits
returns-clause-submits g c =
    let others = c.parted-seats.result.0.items in
    let main = c.parted-seats.result.1 in
    let after = c.joined-saved.result.0.0 in
    let saved = c.joined-saved.result.0.2 in
    let submitted = c.joined-saved.result.1.0 in
    let old = c.args.seats.items in
    let bodies = c.args.bodies.items in
    let make : IfOk submitted (λ it. SessionsMake I c.args.sessions bodies others it.1.items it.0.items) = search rules in
    let notes : OnOk saved (NotesMarks main after) = search rules in
    known_too c.whole.result _ (λ both. SubmitsBatch I c.args.sessions bodies old both.0.1.items both.0.0.items) (IsOk saved)
    (λ both has ok. main_submits submitted saved I c.args.sessions bodies old others both.0.0.items both.0.1.items main after c.parted-seats.ensures make notes ok has)
    c.whole.ensures.ours c.whole.ensures.saved

pub returns-clause-peer_places : goal.returns-clause-peer_places
returns-clause-peer_places g c =
    let others = c.parted-peer_seats.result.0.items in
    let main = c.parted-peer_seats.result.1 in
    let after = c.joined-saved.result.0.1 in
    let submitted = c.joined-saved.result.1.1 in
    let same : IfOk submitted (λ it. AreSamePlaces others it.0.items) = search rules in
    let last : place_of after ≡ place_of main = search rules in
    IfOk-weaker c.whole.result _ _
    (λ both has. with_main submitted c.args.peer_seats.items others both.1.0.items both.1.1.items main after c.parted-peer_seats.ensures same last has)
    c.whole.ensures.theirs

pub returns-clause-peer_submits : goal.returns-clause-peer_submits
returns-clause-peer_submits g c =
    let others = c.parted-peer_seats.result.0.items in
    let main = c.parted-peer_seats.result.1 in
    let after = c.joined-saved.result.0.1 in
    let saved = c.joined-saved.result.0.2 in
    let submitted = c.joined-saved.result.1.1 in
    let old = c.args.peer_seats.items in
    let bodies = c.args.peer_bodies.items in
    let make : IfOk submitted (λ it. SessionsMake M c.args.sessions bodies others it.1.items it.0.items) = search rules in
    let notes : OnOk saved (NotesMarks main after) = search rules in
    known_too c.whole.result _ (λ both. SubmitsBatch M c.args.sessions bodies old both.1.1.items both.1.0.items) (IsOk saved)
    (λ both has ok. main_submits submitted saved M c.args.sessions bodies old others both.1.0.items both.1.1.items main after c.parted-peer_seats.ensures make notes ok has)
    c.whole.ensures.theirs c.whole.ensures.saved

pub returns-clause-well : goal.returns-clause-well
returns-clause-well g c =
    well_so (g.B.Turns.takes I) (g.C.Turns.takes M) c.args.book.now _ c.args.peer_book.now _ c.joined-saved.result.0.2 c.whole.result (search rules) c.whole.ensures.saved

pub returns-clause-tells : goal.returns-clause-tells
returns-clause-tells g c =
    tells_so (g.B.Turns.takes I) (g.C.Turns.takes M) c.args.book.now _ c.args.peer_book.now _ c.joined-saved.result.0.2 c.whole.result (search rules)
    c.whole.ensures.turn c.whole.ensures.no_turn

pub returns-in_err-waker-clause-tells : goal.returns-in_err-waker-clause-tells
returns-in_err-waker-clause-tells g c =
    tells_refused (g.B.Turns.takes I) (g.C.Turns.takes M) c.args.book.now c.args.book.now c.args.peer_book.now c.args.peer_book.now c.from_residual.result c.from_residual.ensures.1
    (both_kept (g.B.Turns.takes I) (g.C.Turns.takes M) c.args.book.now c.args.book.now c.args.peer_book.now c.args.peer_book.now refl refl)

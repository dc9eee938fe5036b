use Rattle.std.proofs.Common.{◌≡◌, ◌<◌, length, refl, ◌∙◌, sym, subst, arith}
use Rattle.gi_office.specs.Entering.{entered, noted, receipt_of}
use Rattle.gi_office.specs.Keeping.{HeldState, IsFull, SeatState}
use Rattle.gi_office.specs.Limits.{most_notes}
use Rattle.gi_office.proofs.Runs.{entered_kept}
use Rattle.gi_office.proofs.Seats.{none_full, seat_noted}
use Rattle.gi_office.proofs.held.Held.enter.Goals as goal

pub invariant_of-self-2 : goal.invariant_of-self-2
invariant_of-self-2 g c =
    let side = g.R.Role.SIDE in
    let inside = c.self.inside in
    let held : HeldState = record { opening = inside.opening; seats = inside.seats; desk = inside.desk; trail = inside.trail.items; total = inside.book.total } in
    let seat : SeatState = record { number = c.seat.inside.number; notes = c.seat.inside.notes.items; amount = c.seat.inside.share.amount; parts = c.seat.inside.share.parts } in
    rw (c.in-Ok.ensures.next, c.in-Ok.ensures.trail, c.add.ensures.total) (entered_kept c.only_appends.ensures side held seat c.args.call c.self.invariant)

pub invariant_of-seat : goal.invariant_of-seat
invariant_of-seat g c = rw c.in_default.ensures.unchanged.2 c.seat.invariant

pub invariant_of-seat-2 : goal.invariant_of-seat-2
invariant_of-seat-2 g c =
    let inside = c.seat.inside in
    let below : length inside.notes.items < most_notes = omega (arith, c.len.ensures, c.if-len-ge-MOST_NOTES.false, inside.notes.ok.0) in
    seat_noted inside.number inside.notes.items c.taken.new.notes.items _ inside.share.amount c.add.new.share.amount inside.share.parts c.add.new.share.parts c.seat.invariant below
    c.in-Ok.ensures.notes c.add.ensures.amount c.add.ensures.parts

pub returns-then-len-ge-MOST_NOTES-clause-full : goal.returns-then-len-ge-MOST_NOTES-clause-full
returns-then-len-ge-MOST_NOTES-clause-full g c =
    let inside = c.seat.inside in
    let long : length inside.notes.items ≡ most_notes = omega (arith, c.seat.invariant.room, c.len.ensures, c.if-len-ge-MOST_NOTES.true, inside.notes.ok.0) in
    (λ _. subst (λ (s : SeatState). IsFull s) c.seat.view_is long, λ _. refl)

pub returns-in_default-clause-full : goal.returns-in_default-clause-full
returns-in_default-clause-full g c =
    let inside = c.seat.inside in
    let seat : SeatState = record { number = c.seat.inside.number; notes = c.seat.inside.notes.items; amount = c.seat.inside.share.amount; parts = c.seat.inside.share.parts } in
    let below : length inside.notes.items < most_notes = omega (arith, c.len.ensures, c.if-len-ge-MOST_NOTES.false, inside.notes.ok.0) in
    (λ e. absurd (let same = e in cc), none_full seat c.args.seat.now c.seat.view_is below)

pub returns-clause-full : goal.returns-clause-full
returns-clause-full g c =
    let inside = c.seat.inside in
    let seat : SeatState = record { number = c.seat.inside.number; notes = c.seat.inside.notes.items; amount = c.seat.inside.share.amount; parts = c.seat.inside.share.parts } in
    let below : length inside.notes.items < most_notes = omega (arith, c.len.ensures, c.if-len-ge-MOST_NOTES.false, inside.notes.ok.0) in
    (λ e. absurd (let same = e in cc), none_full seat c.args.seat.now c.seat.view_is below)

pub returns-clause-receipt : goal.returns-clause-receipt
returns-clause-receipt g c = c.in-Ok.ensures.receipt ∙ (λ i. receipt_of g.R.Role.SIDE (c.self.view_is i) (c.seat.view_is i) c.args.call)

pub returns-clause-held : goal.returns-clause-held
returns-clause-held g c =
    let side = g.R.Role.SIDE in
    let inside = c.self.inside in
    let held : HeldState = record { opening = inside.opening; seats = inside.seats; desk = inside.desk; trail = inside.trail.items; total = inside.book.total } in
    let seat : SeatState = record { number = c.seat.inside.number; notes = c.seat.inside.notes.items; amount = c.seat.inside.share.amount; parts = c.seat.inside.share.parts } in
    let made : HeldState = record { opening = inside.opening; seats = inside.seats; desk = c.taken.new.desk; trail = c.taken.new.trail.items; total = c.add.new.self.total } in
    let first : made ≡ entered side held seat c.args.call =
    (λ i. record { opening = inside.opening; seats = inside.seats; desk = c.in-Ok.ensures.next i; trail = c.in-Ok.ensures.trail i; total = c.add.ensures.total i }) in
    first ∙ (λ i. entered side (c.self.view_is i) (c.seat.view_is i) c.args.call)

pub returns-clause-seat : goal.returns-clause-seat
returns-clause-seat g c =
    let inside = c.seat.inside in
    let seat : SeatState = record { number = c.seat.inside.number; notes = c.seat.inside.notes.items; amount = c.seat.inside.share.amount; parts = c.seat.inside.share.parts } in
    let made : SeatState = record { number = inside.number; notes = c.taken.new.notes.items; amount = c.add.new.share.amount; parts = c.add.new.share.parts } in
    let held : HeldState = record { opening = c.self.inside.opening; seats = c.self.inside.seats; desk = c.self.inside.desk; trail = c.self.inside.trail.items; total = c.self.inside.book.total } in
    let first : made ≡ noted seat c.args.call (receipt_of g.R.Role.SIDE held seat c.args.call) =
    (λ i. record { number = inside.number; notes = c.in-Ok.ensures.notes i; amount = c.add.ensures.amount i; parts = c.add.ensures.parts i }) in
    first ∙ (λ i. noted (c.seat.view_is i) c.args.call (sym c.in-Ok.ensures.receipt i))

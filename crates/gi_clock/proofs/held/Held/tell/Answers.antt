use Rattle.std.proofs.Common.{rules, ◌≡◌, None, Some}
use Rattle.gi_clock.proofs.HeldLemmas.{tells_open, tells_whole}
use Rattle.gi_clock.proofs.held.Held.tell.Goals as goal

pub returns-in-Ok : goal.returns-in-Ok
returns-in-Ok c = λ events.
    let held = c.args.self.now in
    let piece = c.in-Some.piece in
    let was : held.piece ≡ Some piece = search rules in
    let after : c.take.new.self ≡ None = search rules in
    let split = rw c.deref.ensures.value at c.in-Some-whole.ensures in
    let given = rw c.deref-in-Some-whole.ensures.value at c.in-Ok.ensures.given in
    rw (c.requires.none, was, after, c.of.ensures)
    (tells_whole held.begun.items c.in-Ok.given.items c.in-Ok.begun.items piece.line.items piece.bytes.items c.in-Some-whole.at events
    split.0 split.2 split.3 given c.in-Ok.ensures.begun)

pub returns-in-Ok-extend_from_slice : goal.returns-in-Ok-extend_from_slice
returns-in-Ok-extend_from_slice c = λ events.
    let held = c.args.self.now in
    let piece = c.in-Some.piece in
    let was : held.piece ≡ Some piece = search rules in
    let after : c.take.new.self ≡ None = search rules in
    let never = rw c.deref.ensures.value at c.in-None.ensures in
    let begun = rw c.deref-in-None.ensures.value at c.in-Ok-extend_from_slice.ensures.items in
    rw (c.requires.none, was, after, c.of-in-Ok-extend_from_slice.ensures)
    (tells_open held.begun.items c.extend_from_slice.new.self.items piece.line.items piece.bytes.items events never begun)

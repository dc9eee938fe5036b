use Rattle.std.proofs.Common.{rules, ◌≡◌, [], None}
use Rattle.gi_clock.proofs.HeldLemmas.{at_end}
use Rattle.gi_clock.proofs.interleaved.Interleaved.step.Goals as goal

pub returns-then-not-has_begun-clause-bytes : goal.returns-then-not-has_begun-clause-bytes
returns-then-not-has_begun-clause-bytes g c =
    let held = c.self.inside.held in
    let none : held.rest ≡ [] = search rules in
    let nothing : held.piece ≡ None = search rules in
    let begun : held.begun.items ≡ [] = search rules in
    let came = rw c.in-End.is at c.in_ok-line.ensures in
    let end = at_end held (g.S.Events.remaining c.self.inside.source) (g.S.Events.remaining c.next_event.new.self) none nothing begun came.0 came.1 in
    rw (← c.self.view_is) (end.0, λ zero. end.1)

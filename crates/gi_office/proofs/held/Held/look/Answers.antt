use Rattle.std.proofs.Common.{rules, ◌≡◌, ◌≤◌, false, length, ◌∙◌, arith}
use Rattle.std.proofs.lemmas.Bool.Decides.{nat_tests}
use Rattle.gi_office.specs.Saving.{look_of}
use Rattle.gi_office.proofs.Turns.{copied_next, looked_next}
use Rattle.gi_office.proofs.held.Held.look.Goals as goal

pub returns-clause-writable : goal.returns-clause-writable
returns-clause-writable g c =
    let copies = c.in_ok-facts.facts.items in
    let are = c.in_ok-facts.ensures.facts in
    let some : 1 ≤ length copies = grind (arith, nat_tests, c.is_empty.ensures, c.if-is_empty.false) in
    copied_next c.self.inside.desk c.saved.result copies c.from.result are c.from.ensures c.saved.ensures.value c.in_ok-facts.ensures.writable c.in_ok-facts.ensures.numbers some

pub returns-clause-value : goal.returns-clause-value
returns-clause-value g c =
    let desk = c.self.inside.desk in
    let runs : desk.halted ≡ false = search rules in
    let some : 1 ≤ length c.in_ok-facts.facts.items = grind (arith, nat_tests, c.is_empty.ensures, c.if-is_empty.false) in
    looked_next desk c.saved.result c.in_ok-facts.facts.items c.from.result runs c.in_ok-facts.ensures.facts c.from.ensures c.saved.ensures.value some ∙ (λ i. look_of (c.self.view_is i).desk)

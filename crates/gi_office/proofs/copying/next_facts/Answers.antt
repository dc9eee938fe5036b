use Rattle.std.proofs.Common.{◌≡◌, length, ap, arith}
use Rattle.std.proofs.lemmas.List.{length_push}
use Rattle.gi_office.proofs.NextFacts.{next_pushed, next_taken, writable_pushed}
use Rattle.gi_office.proofs.copying.next_facts.Goals as goal

pub loop-before-preserved : goal.loop-before-preserved
loop-before-preserved g c =
    let at = c.loop-before in
    let copy = c.in-Ok.copy in
    let pushed = c.push_reserved.ensures.items in
    record {
      copies = next_pushed c.saved-saved.result at.before c.args.desk.now.facts at.copies.items c.push_reserved.new.self.items copy c.in-Ok.ensures.value at.invariant.copies pushed;
      writable = writable_pushed at.copies.items c.push_reserved.new.self.items copy pushed at.invariant.writable c.in-Ok.ensures.writable;
      counted = omega (arith, ap length pushed, length_push at.copies.items copy, at.invariant.counted);
      room = omega (arith, at.invariant.room, c.push_reserved.ensures.capacity);
    }

pub returns-clause-facts : goal.returns-clause-facts
returns-clause-facts g c =
    let done : c.loop-before.before ≡ c.min-count.result = omega arith in
    next_taken c.args.desk.now.saved c.saved-saved.result c.loop-before.before c.args.desk.now.facts c.loop-before.copies.items c.saved-saved.ensures.value c.loop-before.invariant.copies
    (omega (arith, c.min-count.ensures, c.len.ensures, c.saved-saved.ensures.within, done))

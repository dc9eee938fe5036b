use Rattle.std.proofs.Common.{length, ap, ◌∙◌, sym, arith}
use Rattle.std.specs.Vec.Iter.{into_iter_items}
use Rattle.gi_facts.specs.declared.fact.Fact.{Fact}
use Rattle.gi_office.proofs.MarkingAll.{ends, goes_on, marks_fit, none_left, none_yet, stops}
use Rattle.gi_office.proofs.office.Office.mark_all.Goals as goal

pub loop-fact-init : goal.loop-fact-init
loop-fact-init g c =
    let gives = c.into_iter-fact-iterator.ensures.into_iter_gives in
    record {
      marks = none_yet g.R.Role.SIDE c.args.n c.args.facts.items (into_iter_items c.into_iter-fact-iterator.result) c.args.seat.now gives.0;
      left = omega (arith, gives.1, ap (length {A = Fact}) gives.0, c.args.facts.ok.0);
    }

pub overflow_add-n : goal.overflow_add-n
overflow_add-n g c =
    let at = c.loop-fact in
    let fit = marks_fit g.R.Role.SIDE c.args.n c.args.facts.items (into_iter_items at.fact-iterator) (into_iter_items c.next.new.self) c.in-Some.fact c.args.seat.now at.turn at.seat at.marked
    at.invariant.marks c.in-Some.ensures.steps.0 in
    omega (arith, fit, c.requires.numbers)

pub overflow_add-marked : goal.overflow_add-marked
overflow_add-marked g c =
    let at = c.loop-fact in
    let fit = marks_fit g.R.Role.SIDE c.args.n c.args.facts.items (into_iter_items at.fact-iterator) (into_iter_items c.next.new.self) c.in-Some.fact c.args.seat.now at.turn at.seat at.marked
    at.invariant.marks c.in-Some.ensures.steps.0 in
    omega (arith, fit, c.requires.numbers, c.requires.first)

pub loop-fact-preserved : goal.loop-fact-preserved
loop-fact-preserved g c =
    let at = c.loop-fact in
    record {
      marks = goes_on g.R.Role.SIDE c.args.n c.args.facts.items (into_iter_items at.fact-iterator) (into_iter_items c.next.new.self) c.in-Some.fact c.args.seat.now at.turn at.seat at.marked c.mark_next.new.turn c.mark_next.new.seat
          at.invariant.marks c.in-Some.ensures.steps.0 c.in-Ok.ensures.marked;
      left = omega (arith, c.in-Some.ensures.steps.1, ap (length {A = Fact}) c.in-Some.ensures.steps.0, at.invariant.left);
    }

pub returns-in-Err : goal.returns-in-Err
returns-in-Err g c =
    let at = c.loop-fact in
    stops g.R.Role.SIDE c.args.n c.args.facts.items (into_iter_items at.fact-iterator) (into_iter_items c.next.new.self) c.in-Some.fact c.args.seat.now at.turn at.seat at.marked c.in-Err.fault c.mark_next.new.seat
    at.invariant.marks c.in-Some.ensures.steps.0 c.in-Err.ensures.refused

pub returns : goal.returns
returns g c =
    let at = c.loop-fact in
    ends g.R.Role.SIDE c.args.n c.args.facts.items (into_iter_items at.fact-iterator) c.args.seat.now at.turn at.seat at.marked
    at.invariant.marks (none_left (into_iter_items at.fact-iterator) (sym at.invariant.left ∙ c.in-None.ensures.steps.0)) c.requires.some

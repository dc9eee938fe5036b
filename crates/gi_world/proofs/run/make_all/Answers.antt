use Rattle.std.proofs.Common.{List, length, take, arith, sym, subst}
use Rattle.gi_desk.proofs.HistoryLaws.{one_more}
use Rattle.gi_world.specs.declared.step.Step.{Step}
use Rattle.gi_world.proofs.RunLaws.{IsSoFar, ends_after, ends_before, so_far-agree, so_far-all, so_far-kept, so_far-many, so_far-more, so_far-run}
use Rattle.gi_world.proofs.run.make_all.Goals as goal

pub returns-in_err-make-clause-made : goal.returns-in_err-make-clause-made
returns-in_err-make-clause-made c =
    let at = c.loop-step in
    let below = c.loop-step-test.true in
    so_far-run c.args.world.now c.args.steps.now at.step-index c.make.new.outcomes.items c.make.new.world (omega (arith, below))
    (so_far-kept c.args.world.now (take at.step-index c.args.steps.now) at.outcomes.items c.make.new.outcomes.items at.world c.make.new.world at.invariant.0
    c.in_err-make.ensures.unchanged c.in_err-make.ensures.same)
    (ends_before c.args.steps.now at.step-index c.step-item.result at.world c.make.new.world c.step-item.is c.in_err-make.ensures.same c.in_err-make.ensures.short)

pub returns-in_err-make-clause-agree : goal.returns-in_err-make-clause-agree
returns-in_err-make-clause-agree c =
    let at = c.loop-step in
    so_far-agree c.args.world.now c.args.steps.now at.step-index c.make.new.outcomes.items c.make.new.world
    (so_far-kept c.args.world.now (take at.step-index c.args.steps.now) at.outcomes.items c.make.new.outcomes.items at.world c.make.new.world at.invariant.0
    c.in_err-make.ensures.unchanged c.in_err-make.ensures.same)

pub loop-step-preserved : goal.loop-step-preserved
loop-step-preserved c =
    let at = c.loop-step in
    let step = c.step-item.result in
    let made =
    subst (λ (made : List Step). IsSoFar c.args.world.now made c.make.new.outcomes.items c.make.new.world)
    (sym (one_more c.args.steps.now at.step-index step c.loop-step-test.true c.step-item.is))
    (so_far-more c.args.world.now (take at.step-index c.args.steps.now) step at.outcomes.items c.make.new.outcomes.items at.world c.make.new.world at.invariant.0
    c.in_ok-make.ensures.outcome c.in_ok-make.ensures.next c.in_ok-make.ensures.agrees) in
    let len = c.in_ok-make.ensures.len in
    let places = c.in_ok-make.ensures.places in
    let was = at.invariant.1 in
    let held = at.invariant.2 in
    (made, omega (arith, len, was), omega (arith, places, held))

pub returns-clause-made : goal.returns-clause-made
returns-clause-made c =
    let at = c.loop-step in
    so_far-run c.args.world.now c.args.steps.now (length c.args.steps.now) at.outcomes.items at.world (omega arith)
    (so_far-all c.args.world.now c.args.steps.now at.step-index at.outcomes.items at.world c.loop-step-test.false at.invariant.0)
    (ends_after c.args.steps.now at.world)

pub returns-clause-all : goal.returns-clause-all
returns-clause-all c =
    let at = c.loop-step in so_far-many c.args.world.now c.args.steps.now at.step-index at.outcomes.items at.world c.loop-step-test.false at.invariant.0

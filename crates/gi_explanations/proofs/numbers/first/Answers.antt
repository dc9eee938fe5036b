use Rattle.std.proofs.Common.{◌≤◌, false, length, true, arith, refl}
use Rattle.gi_explanations.specs.Wanted.{is_wanted}
use Rattle.gi_explanations.proofs.NumberLemmas.{any-begins, any-step, first-found, first-none}
use Rattle.gi_explanations.proofs.numbers.first.Goals as goal

pub loop-before-init : goal.loop-before-init
loop-before-init g c = any-begins (is_wanted c.args.wanted.now) c.args.desk.now.facts

pub loop-before-preserved : goal.loop-before-preserved
loop-before-preserved g c =
    any-step (is_wanted c.args.wanted.now) c.args.desk.now.facts c.loop-before.before false
    (omega (arith, c.loop-before-test.true, c.len-before-end.ensures)) c.if-is_at.ensures refl c.loop-before.invariant

pub returns-then-is_at : goal.returns-then-is_at
returns-then-is_at g c =
    first-found (is_wanted c.args.wanted.now) c.args.desk.now.facts c.loop-before.before true
    (omega (arith, c.loop-before-test.true, c.len-before-end.ensures)) c.if-is_at.ensures refl c.loop-before.invariant

pub returns : goal.returns
returns g c =
    let all : length c.args.desk.now.facts ≤ c.loop-before.before = omega (arith, c.loop-before-test.false, c.len-before-end.ensures) in
    first-none (is_wanted c.args.wanted.now) c.args.desk.now.facts c.loop-before.before all c.loop-before.invariant

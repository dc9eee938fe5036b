use Rattle.std.proofs.Common.{rules, Err}
use Rattle.gi_office.specs.Reconciling.{AreOfOnePoint, Reconciles}
use Rattle.gi_office.proofs.Reconciled.{reconciled}
use Rattle.gi_office.proofs.Strangers.{told_first, told_next}
use Rattle.gi_office.proofs.reconciling.reconcile.Goals as goal

pub returns-in_err-none_strange-clause-first : goal.returns-in_err-none_strange-clause-first
returns-in_err-none_strange-clause-first c =
    let one : AreOfOnePoint c.args.initiating.now c.args.matching.now = search rules in
    let told : Reconciles c.args.initiating.now c.args.matching.now (Err c.in_err-none_strange.field-0.0) =
    told_first c.args.initiating.now c.args.matching.now c.in_err-none_strange.field-0.0 one c.in_err-none_strange.ensures.refused in
    search rules

pub returns-in_err-none_strange-2-clause-first : goal.returns-in_err-none_strange-2-clause-first
returns-in_err-none_strange-2-clause-first c =
    let one : AreOfOnePoint c.args.initiating.now c.args.matching.now = search rules in
    let told : Reconciles c.args.initiating.now c.args.matching.now (Err c.in_err-none_strange-2.field-0.0) =
    told_next c.args.initiating.now c.args.matching.now c.in_err-none_strange-2.field-0.0 one c.in_ok-none_strange.ensures.from c.in_err-none_strange-2.ensures.refused in
    search rules

pub returns-clause-one_quantity : goal.returns-clause-one_quantity
returns-clause-one_quantity c =
    reconciled c.args.initiating.now c.args.matching.now (record { lives = c.reveal_invariant.ensures.lives; legal = c.reveal_invariant.ensures.legal; fits = c.reveal_invariant.ensures.fits })
    (record { lives = c.reveal_invariant-2.ensures.lives; legal = c.reveal_invariant-2.ensures.legal; fits = c.reveal_invariant-2.ensures.fits })
    (record { initiating = c.in_ok-none_strange.ensures.from; matching = c.in_ok-none_strange-2.ensures.from })

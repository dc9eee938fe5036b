use Rattle.std.proofs.Common.{◌≡◌, false, ap, sym, ◌∙◌}
use Rattle.gi_desk.specs.Machine.{DeskState, unless_full}
use Rattle.gi_desk.proofs.Called.{halted-outcome, if_failed, running-outcome, short-wants}
use Rattle.gi_desk.proofs.desk.Desk.outcome.Goals as goal

pub returns-then-self-clause-value : goal.returns-then-self-clause-value
returns-then-self-clause-value g c =
    halted-outcome g.R.Role.SIDE c.args.self.now c.args.call.now (sym (ap (λ (s : DeskState). s.halted) c.self.view_is) ∙ c.if-self.true)

pub returns-in_err-comes_to-clause-short : goal.returns-in_err-comes_to-clause-short
returns-in_err-comes_to-clause-short g c =
    if_failed c.from_residual.result
    (short-wants g.R.Role.SIDE c.args.self.now c.args.call.now (sym (ap (λ (s : DeskState). s.halted) c.self.view_is) ∙ c.if-self.false) c.in_err-comes_to.ensures.short)

pub returns-clause-value : goal.returns-clause-value
returns-clause-value g c =
    let state = c.args.self.now in
    let running : state.halted ≡ false = sym (ap (λ (s : DeskState). s.halted) c.self.view_is) ∙ c.if-self.false in
    let facts : c.deref.result.now ≡ state.facts = c.deref.ensures.value ∙ ap (λ (s : DeskState). s.facts) c.self.view_is in
    let called = c.in_ok-comes_to.ensures.value in
    c.unless_full.ensures ∙ (λ i. unless_full (facts i) (called i)) ∙ running-outcome g.R.Role.SIDE state c.args.call.now running

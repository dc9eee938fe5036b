use Rattle.gi_desk.proofs.Called.{if_failed, if_failed_by}
use Rattle.gi_desk.proofs.StepLaws.{made-wants, prepared-wants}
use Rattle.gi_desk.proofs.desk.Desk.try_step.Goals as goal

pub returns-in_err-prepared-clause-short : goal.returns-in_err-prepared-clause-short
returns-in_err-prepared-clause-short g c =
    if_failed c.from_residual.result (prepared-wants g.R.Role.SIDE c.args.self.now c.args.call.now c.in_err-prepared.ensures.short)

pub returns-clause-short : goal.returns-clause-short
returns-clause-short g c =
    if_failed_by c.make.result (made-wants g.R.Role.SIDE c.args.self.now c.args.call.now c.in_ok-prepared.prepared c.in_ok-prepared.ensures.value) c.make.ensures.short

use Rattle.std.proofs.Common.{◌≡◌, sym, subst, ap, ◌∙◌, rules}
use Rattle.std.specs.Prelude.{IsTrue}
use Rattle.gi_desk.specs.Caches.{CanFollow}
use Rattle.gi_desk.specs.Machine.{answer_of, may_want_to_prepare, out_of, outcome, reply}
use Rattle.gi_desk.proofs.Outcomes.{can_follow}
use Rattle.gi_desk.proofs.StepLaws.{leaving-wants}
use Rattle.gi_desk.proofs.desk.Desk.prepare.Goals as goal

pub returns-in_default-clause-short : goal.returns-in_default-clause-short
returns-in_default-clause-short g c =
    let short : IsTrue (may_want_to_prepare g.R.Role.SIDE c.args.self.now c.args.call.now) =
    leaving-wants g.R.Role.SIDE c.args.self.now c.args.call.now c.in_ok-outcome.outcome c.in_ok-outcome.ensures.value c.in_default.ensures.short in
    search (rules, short)

pub returns-clause-value : goal.returns-clause-value
unfolding reply
returns-clause-value g c =
    let side = g.R.Role.SIDE in
    let s = c.args.self.now in
    let is : c.in_ok-outcome.outcome ≡ outcome side s c.args.call.now = c.in_ok-outcome.ensures.value in
    let answer : c.answer.result ≡ answer_of s (outcome side s c.args.call.now) = c.answer.ensures ∙ ap (answer_of s) is in
    let out : c.from.result ≡ out_of side s (outcome side s c.args.call.now) = c.from.ensures ∙ c.in-Ok.ensures.value ∙ ap (out_of side s) is in
    λ t. record { outcome = is t; reply = record { answer = answer t; out = out t } }

pub out-requires : goal.out-requires
out-requires g c =
    let side = g.R.Role.SIDE in
    subst (CanFollow side c.args.self.now) (sym c.in_ok-outcome.ensures.value) (can_follow side c.args.self.now c.args.call.now)

pub answer-requires : goal.answer-requires
answer-requires g c =
    let side = g.R.Role.SIDE in
    subst (CanFollow side c.args.self.now) (sym c.in_ok-outcome.ensures.value) (can_follow side c.args.self.now c.args.call.now)

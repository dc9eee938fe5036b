use Rattle.std.proofs.Common.{◌≡◌, ◌∙◌, ap, string_bytes, subst, sym}
use Rattle.std.proofs.lemmas.Result.{IfOk-weaker}
use Rattle.gi_desk.specs.Machine.{DeskState, started_again}
use Rattle.gi_world.specs.Agreement.{IsSound}
use Rattle.gi_world.specs.Runs.{run}
use Rattle.gi_world.specs.World.{WorldState}
use Rattle.gi_world.proofs.SentPackets.{new-sound}
use Rattle.gi_audit.specs.Agreeing.{Agree}
use Rattle.gi_audit.specs.Audit.{IsAudit}
use Rattle.gi_audit.proofs.AgreeLaws.{worlds-agree}
use Rattle.gi_audit.proofs.running.audit_run.Goals as goal

pub make_all-requires : goal.make_all-requires
make_all-requires c = subst IsSound (sym c.requires) (new-sound c.args.world.now.initiating.desk.point)

pub returns-clause-books : goal.returns-clause-books
returns-clause-books c =
    let w = run c.args.world.now c.args.steps.now in
    let ours : c.initiating.result.now ≡ started_again w.initiating.desk w.initiating.desk.saved =
    c.initiating.ensures ∙ c.in_ok-start_both_again.ensures.initiating
    ∙ ap (λ (v : WorldState). started_again v.initiating.desk v.initiating.desk.saved) c.in_ok-make_all.ensures.next in
    let theirs : c.matching.result.now ≡ started_again w.matching.desk w.matching.desk.saved =
    c.matching.ensures ∙ c.in_ok-start_both_again.ensures.matching
    ∙ ap (λ (v : WorldState). started_again v.matching.desk v.matching.desk.saved) c.in_ok-make_all.ensures.next in
    IfOk-weaker c.audit.result _ _ (λ audited is.
    subst (λ (both : DeskState × DeskState). IsAudit both.0 both.1 (string_bytes audited.text) audited.verdict) (λ k. (ours k, theirs k)) is)
    c.audit.ensures.written

pub returns-clause-agreed : goal.returns-clause-agreed
returns-clause-agreed c =
    let w = c.start_both_again.new.world in
    let agree : Agree w.initiating.desk w.matching.desk = (worlds-agree w c.in_ok-start_both_again.ensures.sound).0 in
    let here = c.initiating.ensures in
    let there = c.matching.ensures in
    let agrees : Agree c.initiating.result.now c.matching.result.now =
    subst (λ (both : DeskState × DeskState). Agree both.0 both.1) (sym (λ k. (here k, there k))) agree in
    IfOk-weaker c.audit.result _ _ (λ audited is. is.1 agrees) c.audit.ensures.verdict

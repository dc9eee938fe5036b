use Rattle.std.proofs.Common.{◌≡◌, ℕ, List, Bor, ap, subst, ◌∙◌}
use Rattle.std.specs.Option.{option_copied, unwrap_or}
use Rattle.gi_cycles.specs.declared.cycle_state.CycleState.{CycleState}
use Rattle.gi_cycles.specs.declared.cycle_state.CycleState.TheVariants.{Collecting}
use Rattle.gi_pairs.specs.declared.cycle_id.CycleId.{CycleId}
use Rattle.gi_desk.specs.Deciding.{decision, number_in}
use Rattle.gi_desk.specs.Machine.{DeskState}
use Rattle.gi_parts.specs.declared.kept_parts.KeptPart.{KeptPart}
use Rattle.gi_desk.specs.History.{state_of}
use Rattle.gi_desk.specs.Judging.{by_decision}
use Rattle.gi_desk.proofs.Called.{found-state, referred-state, role-decided}
use Rattle.gi_desk.proofs.desk.Desk.decided.Goals as goal

pub returns : goal.returns
returns g c =
    let side = g.R.Role.SIDE in
    let facts = c.args.self.now.facts in
    let id = c.args.id.now in
    let message = g.R.Role.as_message c.args.received in
    let state : c.unwrap_or-state.result.now ≡ state_of side facts id =
    ap (λ (b : Bor CycleState). b.now) c.unwrap_or-state.ensures ∙ referred-state c.find.result _
    ∙ ap (λ (i : CycleId). unwrap_or (option_copied c.find.result) (Collecting i)) c.new.ensures ∙ found-state side facts id (option_copied c.find.result) c.find.ensures in
    let kept_is : c.self.inside.parts ≡ c.args.self.now.kept = ap (λ (s : DeskState). s.kept) c.self.view_is in
    let decides : c.decide-decision.result ≡ decision side c.unwrap_or-state.result.now c.args.self.now.kept message =
    subst (λ (ps : List KeptPart). c.decide-decision.result ≡ decision side c.unwrap_or-state.result.now ps message) kept_is
    (role-decided side c.unwrap_or-state.result.now c.self.inside.parts message c.is_short.result _ c.decide-decision.ensures c.is_short.ensures.1 c.if-is_short.false) in
    c.by_decision.ensures ∙ ap (λ (n : ℕ). by_decision facts id n c.decide-decision.result) c.part-part.ensures
    ∙ ap (by_decision facts id (number_in message)) (decides ∙ ap (λ (s : CycleState). decision side s c.args.self.now.kept message) state)

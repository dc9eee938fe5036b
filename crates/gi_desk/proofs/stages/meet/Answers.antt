use Rattle.std.proofs.Common.{◌≡◌, ◌∙◌, Option, Some, None, cond, is_some, sym, ap}
use Rattle.std.specs.BTreeMap.{is_at}
use Rattle.std.specs.Borrow.{MutBor}
use Rattle.std.specs.Map.{set_value}
use Rattle.std.specs.Option.{option_copied_mut}
use Rattle.std.proofs.lemmas.Map.Steps.{set_value_same}
use Rattle.std.proofs.lemmas.Option.{none-some}
use Rattle.std.proofs.lemmas.Result.{on_err_weaker, on_ok_weaker}
use Rattle.gi_pairs.specs.CycleId.{answered}
use Rattle.gi_cycles.specs.States.{matched_of}
use Rattle.gi_cycles.specs.declared.cycle_state.CycleState.TheVariants.{Matched}
use Rattle.gi_desk.specs.History.{frozen_cycle}
use Rattle.gi_desk.specs.Stages.{stage_in}
use Rattle.gi_desk.specs.declared.stage.Stage.{Stage}
use Rattle.gi_desk.proofs.StagesKept.{stage-kept, stage-to-meet, stages-met}
use Rattle.gi_desk.proofs.stages.meet.Goals as goal

pub unreachable-requires : goal.unreachable-requires
unreachable-requires c =
    let known = c.requires in
    let none : None ≡ stage_in c.args.stages.now.entries c.args.id.now = ap (λ (o : Option (MutBor Stage)). option_copied_mut o) (sym c.in_default.is) ∙ c.get_mut.ensures.value in
    none-some _ (none ∙ stage-kept known.0 known.1 known.2 c.args.id.now c.args.peer c.args.stages.now.entries known.3 known.4)

pub meet_at-requires-clause-frozen : goal.meet_at-requires-clause-frozen
meet_at-requires-clause-frozen c =
    let known = c.requires in
    let found : Some c.in-Some.stage.now ≡ stage_in c.args.stages.now.entries c.args.id.now = ap (λ (o : Option (MutBor Stage)). option_copied_mut o) (sym c.in-Some.is) ∙ c.get_mut.ensures.value in
    let stage = stage-to-meet known.0 known.1 known.2 c.args.id.now c.args.peer c.args.stages.now.entries c.in-Some.stage.now known.3 known.4 found in
    (frozen_cycle known.0 known.2 c.args.id.now, stage.frozen, stage.same_hours)

pub meet_at-requires-clause-few : goal.meet_at-requires-clause-few
meet_at-requires-clause-few c =
    let known = c.requires in
    let found : Some c.in-Some.stage.now ≡ stage_in c.args.stages.now.entries c.args.id.now = ap (λ (o : Option (MutBor Stage)). option_copied_mut o) (sym c.in-Some.is) ∙ c.get_mut.ensures.value in
    (stage-to-meet known.0 known.1 known.2 c.args.id.now c.args.peer c.args.stages.now.entries c.in-Some.stage.now known.3 known.4 found).few

pub returns-clause-met : goal.returns-clause-met
returns-clause-met c = λ side point facts are legal number.
    let id = c.args.id.now in
    let peer = c.args.peer in
    let old = c.args.stages.now.entries in
    let found : Some c.in-Some.stage.now ≡ stage_in old id = ap (λ (o : Option (MutBor Stage)). option_copied_mut o) (sym c.in-Some.is) ∙ c.get_mut.ensures.value in
    let stage = stage-to-meet side point facts id peer old c.in-Some.stage.now are legal found in
    let cycle = frozen_cycle side facts id in
    let at = λ (s : Stage). record s { state = Matched (matched_of cycle peer); meeting = Some c.args.number } in
    let new = c.meet_at.new.stage in
    on_ok_weaker c.meet_at.result
    (λ met.
    stages-met side point facts id peer c.args.number old (c.get_mut.follows.lender new).entries legal are number
    (λ other. ((c.get_mut.follows.holds new).3 (ap is_some (sym found))).0 other
    ∙ ap (λ (s : Stage). cond (is_at (answered id) other) (Some s) (stage_in old other)) (met ∙ ap at stage.is)))
    (c.meet_at.ensures.met cycle stage.frozen)

pub returns-clause-unchanged : goal.returns-clause-unchanged
returns-clause-unchanged c =
    let id = c.args.id.now in
    let old = c.args.stages.now.entries in
    let found : Some c.in-Some.stage.now ≡ stage_in old id = ap (λ (o : Option (MutBor Stage)). option_copied_mut o) (sym c.in-Some.is) ∙ c.get_mut.ensures.value in
    on_err_weaker c.meet_at.result
    (λ kept. (c.get_mut.follows.holds c.meet_at.new.stage).0 ∙ ap (set_value (is_at (answered id)) old) kept ∙ set_value_same (is_at (answered id)) old c.in-Some.stage.now (sym found))
    c.meet_at.ensures.unchanged

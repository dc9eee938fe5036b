use Rattle.std.proofs.Common.{◌∙◌, Option, Bor, sym, ap}
use Rattle.std.specs.Prelude.{option_map}
use Rattle.std.specs.Option.{option_copied}
use Rattle.gi_desk.specs.Machine.{DeskState}
use Rattle.gi_desk.specs.Stages.{closed_stage}
use Rattle.gi_desk.specs.declared.stage.Stage.{Stage}
use Rattle.gi_desk.proofs.StageReadings.{state-read}
use Rattle.gi_desk.proofs.desk.Desk.find.Goals as goal

pub returns-in-Some : goal.returns-in-Some
returns-in-Some g c =
    let side = g.R.Role.SIDE in
    let id = c.args.id.now in
    let found = c.get.ensures.value ∙ c.self.invariant.keeps.stages.at id ∙ ap (λ (s : DeskState). closed_stage side s.facts id) c.self.view_is in
    ap (λ (o : Option (Bor Stage)). option_map (λ (s : Stage). s.state) (option_copied o)) (sym c.in-Some.is) ∙ state-read side c.args.self.now.facts id (option_copied c.get.result) found

pub returns-in-None : goal.returns-in-None
returns-in-None g c =
    let side = g.R.Role.SIDE in
    let id = c.args.id.now in
    let found = c.get.ensures.value ∙ c.self.invariant.keeps.stages.at id ∙ ap (λ (s : DeskState). closed_stage side s.facts id) c.self.view_is in
    ap (λ (o : Option (Bor Stage)). option_map (λ (s : Stage). s.state) (option_copied o)) (sym c.in-None.is) ∙ state-read side c.args.self.now.facts id (option_copied c.get.result) found

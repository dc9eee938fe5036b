use Rattle.std.proofs.Common.{◌+◌, ◌∙◌, Option, Bor, length, sym, ap}
use Rattle.std.specs.Option.{option_copied}
use Rattle.gi_desk.specs.Machine.{DeskState}
use Rattle.gi_desk.specs.Stages.{closed_stage}
use Rattle.gi_desk.specs.declared.stage.Stage.{Stage}
use Rattle.gi_desk.proofs.StageReadings.{closing-read, closing_or}
use Rattle.gi_desk.proofs.desk.Desk.number_of_closing.Goals as goal

pub returns-in-Some : goal.returns-in-Some
returns-in-Some g c =
    let side = g.R.Role.SIDE in
    let id = c.args.id.now in
    let found = c.get.ensures.value ∙ c.self.invariant.keeps.stages.at id ∙ ap (λ (s : DeskState). closed_stage side s.facts id) c.self.view_is in
    ap (λ (o : Option (Bor Stage)). closing_or (length c.args.self.now.facts + 1) (option_copied o)) (sym c.in-Some.is)
    ∙ closing-read side c.args.self.now.facts id (option_copied c.get.result) found

pub returns-in-None : goal.returns-in-None
returns-in-None g c =
    let side = g.R.Role.SIDE in
    let id = c.args.id.now in
    let found = c.get.ensures.value ∙ c.self.invariant.keeps.stages.at id ∙ ap (λ (s : DeskState). closed_stage side s.facts id) c.self.view_is in
    c.next_number-beyond.ensures ∙ ap (λ (o : Option (Bor Stage)). closing_or (length c.args.self.now.facts + 1) (option_copied o)) (sym c.in-None.is)
    ∙ closing-read side c.args.self.now.facts id (option_copied c.get.result) found

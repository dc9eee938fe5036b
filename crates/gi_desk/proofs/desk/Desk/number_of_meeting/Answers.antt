use Rattle.std.proofs.Common.{◌≡◌, ◌+◌, ◌∙◌, Option, None, Bor, length, sym, ap, subst}
use Rattle.std.specs.Option.{option_copied, unwrap_or}
use Rattle.gi_desk.specs.Machine.{DeskState, bad_fact}
use Rattle.gi_desk.specs.Stages.{closed_stage}
use Rattle.gi_desk.specs.declared.stage.Stage.{Stage}
use Rattle.gi_desk.proofs.StageReadings.{meeting-read, meeting_or}
use Rattle.gi_desk.proofs.desk.Desk.number_of_meeting.Goals as goal

pub returns-in-Some : goal.returns-in-Some
returns-in-Some g c =
    let side = g.R.Role.SIDE in
    let id = c.args.id.now in
    let legal = subst (λ (s : DeskState). bad_fact side s.point s.facts ≡ None) c.self.view_is c.self.invariant.keeps.stages.legal in
    let found = c.get.ensures.value ∙ c.self.invariant.keeps.stages.at id ∙ ap (λ (s : DeskState). closed_stage side s.facts id) c.self.view_is in
    c.unwrap_or.ensures ∙ (λ t. unwrap_or c.in-Some.stage.now.meeting (c.next_number-beyond.ensures t)) ∙ ap (λ (o : Option (Bor Stage)). meeting_or (length c.args.self.now.facts + 1) (option_copied o)) (sym c.in-Some.is)
    ∙ meeting-read side c.args.self.now.point c.args.self.now.facts id (option_copied c.get.result) legal found

pub returns-in-None : goal.returns-in-None
returns-in-None g c =
    let side = g.R.Role.SIDE in
    let id = c.args.id.now in
    let legal = subst (λ (s : DeskState). bad_fact side s.point s.facts ≡ None) c.self.view_is c.self.invariant.keeps.stages.legal in
    let found = c.get.ensures.value ∙ c.self.invariant.keeps.stages.at id ∙ ap (λ (s : DeskState). closed_stage side s.facts id) c.self.view_is in
    c.next_number-beyond.ensures ∙ ap (λ (o : Option (Bor Stage)). meeting_or (length c.args.self.now.facts + 1) (option_copied o)) (sym c.in-None.is)
    ∙ meeting-read side c.args.self.now.point c.args.self.now.facts id (option_copied c.get.result) legal found

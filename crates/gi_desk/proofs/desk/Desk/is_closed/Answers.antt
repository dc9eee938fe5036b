use Rattle.std.proofs.Common.{◌∙◌, ap}
use Rattle.gi_desk.specs.Machine.{DeskState}
use Rattle.gi_desk.specs.Stages.{closed_stage, stage_in}
use Rattle.gi_desk.proofs.StageReadings.{closed-read}
use Rattle.gi_desk.proofs.desk.Desk.is_closed.Goals as goal

pub returns : goal.returns
returns g c =
    let side = g.R.Role.SIDE in
    let id = c.args.id.now in
    c.contains_key.ensures
    ∙ closed-read side c.args.self.now.facts id (stage_in c.self.inside.kept.stages.entries id) (c.self.invariant.keeps.stages.at id ∙ ap (λ (s : DeskState). closed_stage side s.facts id) c.self.view_is)

use Rattle.std.proofs.Common.{◌≡◌, ◌∙◌}
use Rattle.gi_processing.specs.Processing.{processed}
use Rattle.gi_desk.specs.History.{capacity_of, documents_of}
use Rattle.gi_desk.proofs.StagesKept.{stages-closed}
use Rattle.gi_desk.proofs.stages.close.Goals as goal

pub returns-clause-closed : goal.returns-clause-closed
returns-clause-closed c = λ side point facts rule are legal own number.
    let id = c.args.id.now in
    let id_is = c.close.ensures.id ∙ c.new.ensures in
    let own_is = c.close.ensures.own ∙ own in
    let frozen : c.close.result ≡ record { id = id; own = processed (capacity_of facts) (documents_of facts) side id.day id.cycle rule } = λ i. record { id = id_is i; own = own_is i } in
    stages-closed side point facts id rule c.close.result c.args.number c.args.stages.now.entries c.insert.new.self.entries legal are frozen number c.in_ok-insert.ensures.updates.0

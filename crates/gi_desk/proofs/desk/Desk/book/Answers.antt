use Rattle.std.proofs.Common.{◌∙◌, ap, subst}
use Rattle.gi_desk.specs.History.{documents_of}
use Rattle.gi_desk.specs.Caches.{HasInForce}
use Rattle.gi_desk.specs.Machine.{DeskState}
use Rattle.gi_desk.proofs.desk.Desk.book.Goals as goal

pub returns-clause-at : goal.returns-clause-at
returns-clause-at g c = c.self.invariant.keeps.running.at ∙ ap (λ (s : DeskState). s.point) c.self.view_is

pub returns-clause-nominations : goal.returns-clause-nominations
returns-clause-nominations g c =
    subst (λ (s : DeskState). HasInForce c.self.inside.kept.book.documents (documents_of s.facts)) c.self.view_is c.self.invariant.keeps.running.nominations

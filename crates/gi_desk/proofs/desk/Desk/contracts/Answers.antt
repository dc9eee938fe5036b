use Rattle.std.proofs.Common.{subst}
use Rattle.gi_processing.specs.Readings.{ReadsAs}
use Rattle.gi_desk.specs.History.{capacity_of}
use Rattle.gi_desk.specs.Machine.{DeskState}
use Rattle.gi_desk.proofs.desk.Desk.contracts.Goals as goal

pub returns : goal.returns
returns g c = subst (λ (s : DeskState). ReadsAs c.self.inside.kept.contracts (capacity_of s.facts)) c.self.view_is c.self.invariant.keeps.running.capacity

use Rattle.gi_office.proofs.Marking.{marks}
use Rattle.gi_office.proofs.office.Office.mark.Goals as goal

pub returns : goal.returns
returns g c = rw c.turn_of.ensures (marks _ _ _ _ _ _ c.ask_and_wake.ensures)

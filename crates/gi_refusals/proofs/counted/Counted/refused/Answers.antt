use Rattle.gi_refusals.proofs.Tallies.{told}
use Rattle.gi_refusals.proofs.counted.Counted.refused.Goals as goal

pub returns : goal.returns
returns g c =
    let held = g.W.Write.contents c.self.inside.inner in
    rw (c.refused.ensures, ← c.self.view_is) (told held c.self.inside.lines)

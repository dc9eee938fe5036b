use Rattle.std.proofs.Common.{take}
use Rattle.gi_refusals.proofs.Tallies.{appends}
use Rattle.gi_refusals.proofs.counted.CountedWrite.write.Goals as goal

pub returns-in-Ok-clause-bytes : goal.returns-in-Ok-clause-bytes
returns-in-Ok-clause-bytes g c =
    let old = g.W.Write.contents c.self.inside.inner in
    let new = g.W.Write.contents c.write.new.self in
    rw (← c.self.view_is) (appends old new c.self.inside.lines c.add_all.new.self (take c.in-Ok.written c.args.buf.now) c.add_all.ensures c.in-Ok.ensures.bytes)

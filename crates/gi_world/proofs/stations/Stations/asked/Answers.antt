use Rattle.std.proofs.Common.{◌≡◌, true, rules}
use Rattle.gi_desk.specs.declared.call.Call.TheVariants as calls
use Rattle.gi_world.specs.World.{station_of}
use Rattle.gi_world.proofs.Halted.{leads-alike, replies-alike}
use Rattle.gi_world.proofs.stations.Stations.asked.Goals as goal

pub returns-then-halted-clause-reply : goal.returns-then-halted-clause-reply
returns-then-halted-clause-reply c =
    let halted : (station_of c.args.side c.args.self.now).desk.halted ≡ true = search rules in
    replies-alike c.args.side (station_of c.args.side c.args.self.now).desk calls.Halt (calls.Deliver c.args.packet.now.body) halted

pub returns-then-halted-clause-next : goal.returns-then-halted-clause-next
returns-then-halted-clause-next c =
    let halted : (station_of c.args.side c.args.self.now).desk.halted ≡ true = search rules in
    leads-alike c.args.side (station_of c.args.side c.args.self.now) calls.Halt (calls.Deliver c.args.packet.now.body) halted

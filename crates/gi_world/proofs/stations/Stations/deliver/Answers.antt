use Rattle.std.proofs.Common.{◌≡◌, Err, Some, rules}
use Rattle.gi_world.specs.World.{delivery, station_of}
use Rattle.gi_world.specs.declared.world_fault.WorldFault.TheVariants.{OutOfMemory}
use Rattle.gi_world.proofs.Halted.{delivery-short, running}
use Rattle.gi_world.proofs.stations.Stations.deliver.Goals as goal

pub returns-in_err-reply : goal.returns-in_err-reply
returns-in_err-reply c =
    let w = c.args.self.now in
    let there : delivery w c.args.side c.args.packet ≡ Some c.in-Some.packet.now = search rules in
    let short : c.from_residual-in_err-reply.result ≡ Err OutOfMemory = search rules in
    delivery-short w c.args.side c.args.packet c.in-Some.packet.now c.from_residual-in_err-reply.result c.take-reply.new.self there
    (running c.args.side (station_of c.args.side w).desk c.in_ok-call.call c.in_err-reply.ensures.short) short c.in_err-reply.ensures.unchanged

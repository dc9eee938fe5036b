use Rattle.gi_world.proofs.Opening.{opens}
use Rattle.gi_world.proofs.station.Station.open.Goals as goal

pub unwrap-requires : goal.unwrap-requires
unwrap-requires g c = opens g.R.Role.SIDE c.args.point c.new.result.items c.replay.result c.new.ensures.items c.replay.ensures

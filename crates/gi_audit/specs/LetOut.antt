-- What both sides of a world have let out.
use Rattle.std.specs.Prelude.{◌≡◌}
use Rattle.gi_pairs.specs.declared.side.Side.{Side}
use Rattle.gi_world.specs.World.{WorldState, station_of}

-- either side has let out the same packets in both, to its peer and to its portfolios
pub record HaveLetOut (before after : WorldState) : Type 0 where
  pub sent : (side : Side) → (station_of side after).sent ≡ (station_of side before).sent
  pub told : (side : Side) → (station_of side after).told ≡ (station_of side before).told

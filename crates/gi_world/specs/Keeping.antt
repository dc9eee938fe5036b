-- What no step of the world takes back.
use Rattle.std.specs.Prelude.{◌≡◌, List, ◌++◌, Some}
use Rattle.gi_pairs.specs.Table.{TableContents}
use Rattle.gi_pairs.specs.declared.cycle_id.CycleId.{CycleId}
use Rattle.gi_pairs.specs.declared.side.Side.{Side}
use Rattle.gi_desk.specs.Queries.{confirmed}
use Rattle.gi_desk.specs.declared.packet.Packet.{Packet}
use Rattle.gi_world.specs.World.{WorldState, station_of}

-- a list is another one with more at its end
abbrev pub IsLonger : List Packet → List Packet → Type 0
IsLonger old new = (more : List Packet) × (new ≡ old ++ more)

-- what a side let out stays, in its order; what it lets out comes to the end
abbrev pub OnlyAppends : WorldState → WorldState → Type 0
OnlyAppends old new =
    (side : Side) → IsLonger (station_of side old).sent (station_of side new).sent × IsLonger (station_of side old).told (station_of side new).told

-- what a side has confirmed of a cycle stays so
abbrev pub KeepsConfirmed : WorldState → WorldState → Type 0
KeepsConfirmed old new =
    (side : Side) (id : CycleId) (table : TableContents) → confirmed side (station_of side old).desk id ≡ Some table
    → confirmed side (station_of side new).desk id ≡ Some table

-- What a side has written to its peer of the table that it froze.
use Rattle.std.specs.Prelude.{Bool, is_some, if◌then◌else◌, Option, Some, None}
use Rattle.gi_pairs.specs.Table.{TableContents}
use Rattle.gi_pairs.specs.declared.cycle_id.CycleId.{CycleId}
use Rattle.gi_pairs.specs.declared.side.Side.{Side}
use Rattle.gi_pairs.specs.declared.side.Side.TheVariants.{I, M}
use Rattle.gi_desk.specs.History.{frozen_table, is_closed, peer_of}
use Rattle.gi_desk.specs.Machine.{DeskState}
use Rattle.gi_world.specs.Agreement.{saved_facts}

-- The initiating side writes of a cycle once its closing is saved, and the matching side once its meeting is.
abbrev pub has_sent : Side → DeskState → CycleId → Bool
has_sent I s id = is_closed id (saved_facts s)
has_sent M s id = is_some (peer_of id (saved_facts s))

-- the frozen table that it has so written
unfoldable pub sent_table : Side → DeskState → CycleId → Option TableContents
sent_table side s id = if has_sent side s id then Some (frozen_table side s.facts id) else None

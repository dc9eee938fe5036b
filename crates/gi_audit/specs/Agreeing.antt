-- When two desks agree, and what then holds of all that they have confirmed.
use Rattle.std.specs.Prelude.{◌≡◌, [], Some}
use Rattle.gi_pairs.specs.Table.{TableContents}
use Rattle.gi_pairs.specs.declared.cycle_id.CycleId.{CycleId}
use Rattle.gi_pairs.specs.declared.side.Side.TheVariants.{I, M}
use Rattle.gi_desk.specs.Machine.{DeskState}
use Rattle.gi_desk.specs.Queries.{confirmed}
use Rattle.gi_world.specs.Agreement.{MeetsAfter, MeetsFrozen}
use Rattle.gi_world.specs.Confirming.{ConfirmsAtBoth, ConfirmsTheLower, ReadAlike}
use Rattle.gi_world.specs.World.{WorldState}

-- Each table that either side met is the one that the other side froze, whose closing is saved there; and what the
-- initiating side met the matching side met before, and saved.
pub record Agree (initiating matching : DeskState) : Type 0 where
  pub initiating_met : MeetsFrozen I initiating matching
  pub matching_met : MeetsFrozen M matching initiating
  pub after : MeetsAfter initiating matching

-- two desks of which nothing is known but what they hold
abbrev pub world_of : DeskState → DeskState → WorldState
world_of initiating matching = record {
  initiating = record { desk = initiating; sent = []; told = [] };
  matching = record { desk = matching; sent = []; told = [] };
}

-- Whatever either side has confirmed reads everywhere as the lower of the two tables that both froze; what the initiating
-- side has confirmed the matching side has; and what both have confirmed of a cycle reads alike.
pub record ConfirmOneQuantity (initiating matching : DeskState) : Type 0 where
  pub lower : ConfirmsTheLower (world_of initiating matching)
  pub both : ConfirmsAtBoth (world_of initiating matching)
  pub alike : (id : CycleId) (ours theirs : TableContents) → confirmed I initiating id ≡ Some ours → confirmed M matching id ≡ Some theirs → ReadAlike ours theirs

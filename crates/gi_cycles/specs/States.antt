-- What a cycle holds when it is frozen, and when it is matched.
use Rattle.std.specs.Prelude.{◌≡◌, ◌≤◌, length}
use Rattle.gi_lesser.specs.Lesser.{IsLesser, lesser_of}
use Rattle.gi_pairs.specs.Limits.{most_processed_rows}
use Rattle.gi_pairs.specs.Table.{HasShapeOf, TableContents}
use Rattle.gi_pairs.specs.declared.cycle_id.CycleId.{CycleId}
use Rattle.gi_cycles.specs.declared.meet_fault.MeetFault.{MeetFault}
use Rattle.gi_cycles.specs.declared.meet_fault.MeetFault.TheVariants.{ShapeDiffers, OutOfMemory}

-- the operator's own processed table, frozen when the cycle closed
pub record FrozenCycle : Type 0 where
  pub id : CycleId
  pub own : TableContents

-- the own frozen table, the peer's, and what of both is confirmed
pub record MatchedCycle : Type 0 where
  pub id : CycleId
  pub own : TableContents
  pub peer : TableContents
  pub confirmed : TableContents

-- both tables are for the same hours, and the lesser of them is confirmed
pub record IsMatched (own peer confirmed : TableContents) : Type 0 where
  pub same_hours : HasShapeOf own peer
  pub own_few : length own.rows ≤ most_processed_rows
  pub peer_few : length peer.rows ≤ most_processed_rows
  pub value : confirmed ≡ lesser_of own peer
  pub law : IsLesser own peer confirmed

-- a frozen cycle that has met the table of the peer
abbrev pub matched_of : FrozenCycle → TableContents → MatchedCycle
matched_of cycle peer = record {
  id = cycle.id;
  own = cycle.own;
  peer = peer;
  confirmed = lesser_of cycle.own peer;
}

-- what a refusal tells of the hours of both
abbrev pub IsMeetFault : FrozenCycle → TableContents → MeetFault → Type 0
IsMeetFault cycle peer ShapeDiffers = ¬ HasShapeOf cycle.own peer
IsMeetFault cycle peer OutOfMemory = HasShapeOf cycle.own peer

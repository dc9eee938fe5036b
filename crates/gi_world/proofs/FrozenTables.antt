-- The frozen tables of a cycle: both sides' cover the same hours, and those of facts that can be written are tables.
use Rattle.std.proofs.Common.{◌≡◌, ℕ, List, true, refl}
use Rattle.gi_pairs.specs.Table.{IsTable}
use Rattle.gi_pairs.specs.declared.cycle_id.CycleId.{CycleId}
use Rattle.gi_pairs.specs.declared.side.Side.{Side}
use Rattle.gi_processing.specs.Processing.{processed}
use Rattle.gi_lesser.specs.Lesser.{HasShapeOf}
use Rattle.gi_desk.specs.History.{frozen_cycle, frozen_table, is_closed, peer_of}
use Rattle.gi_desk.specs.Writable.{FitsDesk}
use Rattle.gi_facts.specs.Writable.{FitsProcessed}
use Rattle.gi_facts.specs.declared.fact.Fact.{Fact}
use Rattle.gi_world.proofs.DeliveredPackets.{closed_fits, frozen_fits}

pub same-hours : (side other : Side) (facts others : List Fact) (id : CycleId) → HasShapeOf (frozen_table side facts id) (frozen_table other others id)
unfolding frozen_table processed
same-hours side other facts others id = record { first = refl; last = refl }

pub frozen-fits : (side : Side) (point : List ℕ) (facts : List Fact) (id : CycleId) → FitsDesk side point facts → is_closed id facts ≡ true
    → FitsProcessed (frozen_table side facts id)
frozen-fits side point facts id fits closed = (frozen_fits side (frozen_cycle side facts id) (peer_of id facts) (closed_fits side point facts id fits closed)).own

pub frozen-is-table : (side : Side) (point : List ℕ) (facts : List Fact) (id : CycleId) → FitsDesk side point facts → is_closed id facts ≡ true
    → IsTable (frozen_table side facts id)
frozen-is-table side point facts id fits closed = (frozen-fits side point facts id fits closed).table

-- What holds of all desks that agree, and of the desks of every world.
use Rattle.std.specs.Prelude.{◌≡◌, ◌≢◌, ℕ, None, Some, is_some, true}
use Rattle.gi_pairs.specs.Table.{HasShapeOf, TableContents}
use Rattle.gi_pairs.specs.declared.cycle_id.CycleId.{CycleId}
use Rattle.gi_pairs.specs.declared.side.Side.{Side}
use Rattle.gi_pairs.specs.declared.side.Side.TheVariants.{I, M}
use Rattle.gi_desk.specs.Machine.{DeskState, started_again}
use Rattle.gi_desk.specs.Queries.{confirmed}
use Rattle.gi_desk.specs.Writable.{FitsDesk}
use Rattle.gi_world.specs.Agreement.{IsLegal, IsSound}
use Rattle.gi_world.specs.World.{WorldState}
use Rattle.gi_audit.specs.Agreeing.{Agree, ConfirmOneQuantity}
use Rattle.gi_audit.specs.Finding.{difference, finding}
use Rattle.gi_audit.specs.Place.{IsFirstPlace, first_place, place_between}
use Rattle.gi_audit.specs.declared.difference.Difference.{Difference}
use Rattle.gi_audit.specs.declared.difference.Against.TheVariants.{Closed}
use Rattle.gi_audit.specs.declared.finding.Finding.TheVariants.{OpenAtBoth}
use Rattle.gi_audit.specs.declared.place.Place.{Place}

-- Of two desks that agree every quantity that either has confirmed is the lower of the two that both froze. Each holds
-- facts that it would record in turn, and can be written: so do all desks.
abbrev pub AgreeingDesksConfirmOneQuantity : Type 0
AgreeingDesksConfirmOneQuantity =
    (initiating matching : DeskState) → IsLegal I initiating → IsLegal M matching → FitsDesk I initiating.point initiating.facts → FitsDesk M matching.point matching.facts
    → Agree initiating matching → ConfirmOneQuantity initiating matching

-- Where what the initiating side met does not differ, and it has confirmed a cycle, the matching side has: so no cycle is open
-- at the matching side alone.
abbrev pub TheMatchingSideConfirmsFirst : Type 0
TheMatchingSideConfirmsFirst =
    (initiating matching : DeskState) (id : CycleId) (table : TableContents) → difference I M initiating matching id ≡ None → confirmed I initiating id ≡ Some table
    → is_some (confirmed M matching id) ≡ true

-- What is found to be open at both neither side has confirmed.
abbrev pub OpenAtBothIsOpen : Type 0
OpenAtBothIsOpen =
    (initiating matching : DeskState) (id : CycleId) → finding initiating matching id ≡ OpenAtBoth
    → (confirmed I initiating id ≡ None) × (confirmed M matching id ≡ None)

-- The two desks of a world agree, whatever steps led to it, and so do the desks that start again from what is saved
-- there.
abbrev pub WorldsAgree : Type 0
WorldsAgree =
    (w : WorldState) → IsSound w
    → Agree w.initiating.desk w.matching.desk
    × Agree (started_again w.initiating.desk w.initiating.desk.saved) (started_again w.matching.desk w.matching.desk.saved)

-- Two tables of the same hours that are not equal have a place: the first row that differs, and there the first hour, if any
-- reads another quantity.
abbrev pub TablesThatDifferHaveAPlace : Type 0
TablesThatDifferHaveAPlace =
    (met written : TableContents) → HasShapeOf met written → met ≢ written
    → (place : Place) × (first_place met written ≡ Some place) × IsFirstPlace met written place

-- Whatever place is told, it is that one.
abbrev pub APlaceIsTheFirst : Type 0
APlaceIsTheFirst = (met written : TableContents) (place : Place) → first_place met written ≡ Some place → IsFirstPlace met written place

-- So where a desk met another table than the one that its peer wrote, a place is told.
abbrev pub AnotherTableHasAPlace : Type 0
AnotherTableHasAPlace =
    (side other : Side) (s peer : DeskState) (id : CycleId) (found : Difference) (closing : ℕ) → IsLegal side s → difference side other s peer id ≡ Some found
    → found.against ≡ Closed closing → is_some (place_between other s peer id) ≡ true

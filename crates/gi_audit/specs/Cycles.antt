-- The cycles that are closed at either of two desks.
use Rattle.std.specs.Prelude.{◌≡◌, ◌↔◌, ◌⊎◌, List, Contains, true}
use Rattle.std.specs.List.Sorted.{IsStrictlySortedBy}
use Rattle.gi_pairs.specs.CycleId.{cycle_cmp}
use Rattle.gi_pairs.specs.declared.cycle_id.CycleId.{CycleId}
use Rattle.gi_desk.specs.History.{is_closed}
use Rattle.gi_desk.specs.Machine.{DeskState}

-- these cycles and no other, by gas day and number, each once
pub record AreClosedAtEither (initiating matching : DeskState) (ids : List CycleId) : Type 0 where
  pub closed : (id : CycleId) → Contains ids id ↔ ((is_closed id initiating.facts ≡ true) ⊎ (is_closed id matching.facts ≡ true))
  pub sorted : IsStrictlySortedBy cycle_cmp ids

-- The closed cycles of a desk, in the order of its reports.
use Rattle.std.specs.Prelude.{List}
use Rattle.std.specs.List.Sorted.{IsPermutation, IsStrictlySortedBy}
use Rattle.gi_pairs.specs.CycleId.{cycle_cmp}
use Rattle.gi_pairs.specs.declared.cycle_id.CycleId.{CycleId}
use Rattle.gi_facts.specs.declared.fact.Fact.{Fact}
use Rattle.gi_desk.specs.History.{closings}

-- the cycles that the facts close: all of them and no other, in order, each once
pub record AreClosedCycles (facts : List Fact) (ids : List CycleId) : Type 0 where
  pub closed : IsPermutation (closings facts) ids
  pub sorted : IsStrictlySortedBy cycle_cmp ids

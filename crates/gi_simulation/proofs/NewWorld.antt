-- A new world has confirmed and told nothing.
use Rattle.std.proofs.Common.{◌≡◌, ℕ, List, All, true, Some, is_some, arith, refl, sym, subst}
use Rattle.gi_pairs.specs.Table.{TableContents}
use Rattle.gi_pairs.specs.declared.cycle_id.CycleId.{CycleId}
use Rattle.gi_pairs.specs.declared.side.Side.{Side}
use Rattle.gi_pairs.specs.declared.side.Side.TheVariants.{I, M}
use Rattle.gi_desk.specs.History.{peer_of}
use Rattle.gi_world.specs.Confirming.{IsLowerOfFrozen, has_confirmed, table_confirmed}
use Rattle.gi_world.specs.Headline.{OneConfirmedQuantity}
use Rattle.gi_world.specs.Histories.{held, history_of, no_histories}
use Rattle.gi_world.specs.Telling.{TellsTheLower}
use Rattle.gi_world.specs.World.{WorldState, new_world}

no_tables : (side : Side) (id : CycleId) → is_some (table_confirmed side (history_of side no_histories) id) ≡ has_confirmed (history_of side no_histories) id
unfolding has_confirmed table_confirmed peer_of
no_tables I id = refl
no_tables M id = refl

none_lower : (side : Side) (id : CycleId) (table : TableContents) → table_confirmed side (history_of side no_histories) id ≡ Some table → IsLowerOfFrozen no_histories id table
unfolding table_confirmed peer_of
none_lower I id table e = absurd cc
none_lower M id table e = absurd cc

none_confirmed : (id : CycleId) → has_confirmed no_histories.initiating id ≡ true → has_confirmed no_histories.matching id ≡ true
unfolding has_confirmed
none_confirmed id e = e

none_told : (side : Side) → All (TellsTheLower no_histories side) (history_of side no_histories).told
none_told I = λ k d below. absurd (omega (arith, below))
none_told M = λ k d below. absurd (omega (arith, below))

no_table : (id : CycleId) (table : TableContents) → table_confirmed I no_histories.initiating id ≡ Some table → ⊥
unfolding table_confirmed peer_of
no_table id table e = absurd cc

no_quantity : OneConfirmedQuantity no_histories
no_quantity = record {
  confirmed = record {
    tables = no_tables;
    lower = none_lower;
    matching_too = none_confirmed;
    alike = λ id initiating matching first second. absurd (no_table id initiating first);
  };
  told = none_told;
}

pub new_one_quantity : (point : List ℕ) (w : WorldState) → w ≡ new_world point → OneConfirmedQuantity (held w)
new_one_quantity point w is = subst (λ (new : WorldState). OneConfirmedQuantity (held new)) (sym is) no_quantity

-- The headline: one confirmed quantity.
use Rattle.std.specs.Prelude.{All}
use Rattle.gi_pairs.specs.declared.side.Side.{Side}
use Rattle.gi_world.specs.Confirming.{ConfirmsByHistory}
use Rattle.gi_world.specs.Histories.{Histories, history_of}
use Rattle.gi_world.specs.Telling.{TellsTheLower}

-- One confirmed quantity: every quantity that either side has confirmed or told is the lower of the two that both froze for
-- its cycle, pair, direction and hour; so the two never differ.
pub record OneConfirmedQuantity (both : Histories) : Type 0 where
  pub confirmed : ConfirmsByHistory both
  pub told : (side : Side) → All (TellsTheLower both side) (history_of side both).told

-- What is shown of an hour: nothing of a cycle where there is none.
use Rattle.std.specs.Prelude.{◌≡◌, ◌≤◌, ℕ, ◌+◌, ◌-◌, Option, Some, None}
use Rattle.gi_pairs.specs.declared.direction.Direction.{Direction}
use Rattle.gi_pairs.specs.declared.direction.Direction.TheVariants.{IM, MI}
use Rattle.gi_picture.specs.declared.hour.Amounts.{Amounts}
use Rattle.gi_picture.specs.declared.hour.Hour.{Hour}

abbrev pub amounts_in : Direction → Hour → Amounts
amounts_in IM hour = hour.im
amounts_in MI hour = hour.mi

abbrev pub value_if : Option ℕ → ℕ → Option ℕ
value_if None amount = None
value_if (Some cycle) amount = Some amount

-- what this side's own capacity cuts
abbrev pub own_cut : Amounts → ℕ
own_cut amounts = amounts.nominated - amounts.processed

-- what the peer leaves out of what this side processed
abbrev pub peer_cut : Amounts → ℕ
peer_cut amounts = amounts.processed - amounts.in_force

-- what is nominated and not in force
abbrev pub whole_cut : Amounts → ℕ
whole_cut amounts = amounts.nominated - amounts.in_force

-- Both cuts together are what is nominated and not in force.
abbrev pub CutsAddUp : Type 0
CutsAddUp = (amounts : Amounts) → amounts.in_force ≤ amounts.processed → amounts.processed ≤ amounts.nominated → own_cut amounts + peer_cut amounts ≡ whole_cut amounts

-- of the cycle that is shown: what is nominated, and what this side processed
abbrev pub nominated_of : Direction → Hour → Option ℕ
nominated_of direction hour = value_if hour.shown (amounts_in direction hour).nominated

abbrev pub processed_of : Direction → Hour → Option ℕ
processed_of direction hour = value_if hour.shown (amounts_in direction hour).processed

-- of the cycle in force: what the peer processed, what is in force, and the cuts
abbrev pub peers_of : Direction → Hour → Option ℕ
peers_of direction hour = value_if hour.cycle (amounts_in direction hour).peers

abbrev pub in_force_of : Direction → Hour → Option ℕ
in_force_of direction hour = value_if hour.cycle (amounts_in direction hour).in_force

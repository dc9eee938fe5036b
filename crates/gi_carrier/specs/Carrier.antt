-- What waits at a carrier, and what a plan makes of it.
use Rattle.std.specs.Prelude.{◌≤◌, ◌+◌, ◌%◌, ◌^◌, ◌==◌, ℕ, List, [], ◌∷◌, ◌++◌, take, drop, get_or, slice_get, length, if◌then◌else◌, Option, None}
use Rattle.gi_carrier.specs.Limits.{most_moves}
use Rattle.gi_carrier.specs.declared.moves.Move.{Move}
use Rattle.gi_carrier.specs.declared.moves.Move.TheVariants.{Pass, Drop, Repeat, Hold}

-- a plan has a move, and not too many
abbrev pub IsPlan : List Move → Type 0
IsPlan moves = (1 ≤ length moves) × (length moves ≤ most_moves)

-- the messages that wait, in order, and how many moves were made
pub record CarrierState : Type 0 where
  pub waiting : List (List ℕ)
  pub position : ℕ

-- nothing waits, and no move was made
abbrev pub new_carrier : CarrierState
new_carrier = record { waiting = []; position = 0 }

-- the message waits behind the others
abbrev pub after_send : List ℕ → CarrierState → CarrierState
after_send message s = record { waiting = s.waiting ++ message ∷ []; position = s.position }

-- the move at a position: after the plan's last move comes its first
abbrev pub move_at : List Move → ℕ → Move
move_at plan position = get_or plan (position % length plan) Pass

-- the position goes on by one, from its last value to 0
abbrev pub next_position : ℕ → ℕ
next_position position = (position + 1) % 2 ^ 64

-- Pass and Repeat give the first of what waits, Drop and Hold nothing
abbrev pub given_by : Move → List (List ℕ) → Option (List ℕ)
given_by Pass waiting = slice_get waiting 0
given_by Drop waiting = None
given_by Repeat waiting = slice_get waiting 0
given_by Hold waiting = None

-- Pass and Drop take the first, Repeat leaves it, Hold puts it last
abbrev pub left_by : Move → List (List ℕ) → List (List ℕ)
left_by Pass waiting = drop 1 waiting
left_by Drop waiting = drop 1 waiting
left_by Repeat waiting = waiting
left_by Hold waiting = drop 1 waiting ++ take 1 waiting

-- what is given next under a plan: nothing where nothing waits
abbrev pub given : List Move → CarrierState → Option (List ℕ)
given plan s = given_by (move_at plan s.position) s.waiting

-- the carrier after that: as it was where nothing waits
abbrev pub after_next : List Move → CarrierState → CarrierState
after_next plan s =
    if length s.waiting == 0 then s
    else record { waiting = left_by (move_at plan s.position) s.waiting; position = next_position s.position }

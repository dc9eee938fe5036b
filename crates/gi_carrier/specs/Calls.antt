-- What a list of calls makes of a carrier.
use Rattle.std.specs.Prelude.{ℕ, List, [], ◌∷◌, ◌++◌}
use Rattle.gi_carrier.specs.Carrier.{CarrierState, after_next, after_send}
use Rattle.gi_carrier.specs.declared.moves.Move.{Move}

-- a message is sent, or the next is taken under a plan, or either is refused
pub data CarrierCall : Type 0 where
  Sends : List ℕ → CarrierCall
  Takes : List Move → CarrierCall
  IsRefused : CarrierCall

-- the carrier after a call: a refused one leaves it as it was
abbrev pub after_call : CarrierState → CarrierCall → CarrierState
after_call s (Sends message) = after_send message s
after_call s (Takes plan) = after_next plan s
after_call s IsRefused = s

-- and after a list of them
abbrev pub after_calls : CarrierState → List CarrierCall → CarrierState
after_calls s [] = s
after_calls s (call ∷ calls) = after_calls (after_call s call) calls

-- the messages that are sent
abbrev pub sent_by : CarrierCall → List (List ℕ)
sent_by (Sends message) = message ∷ []
sent_by (Takes plan) = []
sent_by IsRefused = []

abbrev pub sent_in : List CarrierCall → List (List ℕ)
sent_in [] = []
sent_in (call ∷ calls) = sent_by call ++ sent_in calls

-- What holds of all carriers.
use Rattle.std.specs.Prelude.{◌≡◌, ℕ, List, Some, All, Contains}
use Rattle.gi_carrier.specs.Calls.{CarrierCall, after_calls, sent_in}
use Rattle.gi_carrier.specs.Carrier.{given, new_carrier}
use Rattle.gi_carrier.specs.declared.moves.Move.{Move}

-- after any calls of a new carrier, what waits was sent in one of them
abbrev pub WhatWaitsWasSent : Type 0
WhatWaitsWasSent = (calls : List CarrierCall) → All (Contains (sent_in calls)) (after_calls new_carrier calls).waiting

-- and what comes out next was sent in one of them, whatever the plans are
abbrev pub WhatComesOutWasSent : Type 0
WhatComesOutWasSent =
    (calls : List CarrierCall) (plan : List Move) (message : List ℕ) → given plan (after_calls new_carrier calls) ≡ Some message → Contains (sent_in calls) message

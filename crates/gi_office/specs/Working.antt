-- A session under way, and the room that sessions need before they are.
use Rattle.std.specs.Prelude.{◌≡◌, ◌≤◌, List, [], ◌∷◌, length, vec_capacity, Vec}
use Rattle.gi_office.specs.Serving.{ServedState, SessionState}
use Rattle.gi_office.specs.declared.receipt.Receipt.{Receipt}
use Rattle.gi_office.specs.declared.work.Work.{Work}

module _ {L : Type 0} where
  -- the session that is to be served
  abbrev pub session_of : Work L → SessionState
  session_of work = record { seat = work.seat; bodies = work.bodies.items }

  -- what came of it, once it is over
  abbrev pub served_of : Work L → ServedState
  served_of work = record { seat = work.seat; receipts = work.receipts.items; fault = work.fault }

  -- there is no receipt yet, and room for one of each body
  abbrev pub IsReady : Work L → Type 0
  IsReady work = (work.receipts.items ≡ []) × (length work.bodies.items ≤ vec_capacity work.receipts)

-- for each session, in order, a list with no receipt yet and room for one of each of its bodies
abbrev pub AreRooms : {Z : Type 0} → List SessionState → List (Vec Receipt Z) → Type 0
AreRooms [] [] = Unit {0}
AreRooms [] (room ∷ rooms) = ⊥
AreRooms (session ∷ sessions) [] = ⊥
AreRooms (session ∷ sessions) (room ∷ rooms) = (room.items ≡ []) × (length session.bodies ≤ vec_capacity room) × AreRooms sessions rooms

-- Sessions: each submits bodies from a seat of its own, one after the other, as long as a gate lets it.
use Rattle.std.specs.Prelude.{◌≡◌, ◌<◌, ◌↔◌, ◌⊎◌, ℕ, ◌+◌, List, [], ◌∷◌, length, Option, None, Some, Result, Ok, Err}
use Rattle.gi_pairs.specs.declared.side.Side.{Side}
use Rattle.gi_desk.specs.declared.call.Call.TheVariants.{Submit}
use Rattle.gi_office.specs.Entering.{IsReceipt, noted}
use Rattle.gi_office.specs.Keeping.{IsFull, SeatState}
use Rattle.gi_office.specs.Saving.{IsRefused}
use Rattle.gi_office.specs.declared.office_fault.OfficeFault.{OfficeFault}
use Rattle.gi_office.specs.declared.office_fault.OfficeFault.TheVariants.{SeatFull}
use Rattle.gi_office.specs.declared.receipt.Receipt.{Receipt}

-- the seat, and the bodies to submit from it, in order
pub record SessionState : Type 0 where
  pub seat : SeatState
  pub bodies : List (List ℕ)

-- what came of them: the seat, the receipts in order, and the fault that ended the session, if any
pub record ServedState : Type 0 where
  pub seat : SeatState
  pub receipts : List Receipt
  pub fault : Option OfficeFault

-- The next body of a session: the gate, which may let the call go, did so, and it got its receipt, which the seat noted, or was
-- refused; or the gate, which may end the session here, did so, and the seat is as it was.
abbrev pub Submits : Side → Type 0 → Type 0 → SeatState → List ℕ → Result Receipt (Option OfficeFault) → SeatState → Type 0
Submits side may_go may_end old body (Ok receipt) new = may_go × IsReceipt side old (Submit body) receipt × (new ≡ noted old (Submit body) receipt)
Submits side may_go may_end old body (Err None) new = may_end × (new ≡ old)
Submits side may_go may_end old body (Err (Some fault)) new = may_go × IsRefused old fault new

-- The first bodies, as many as there are receipts, were submitted from the seat in order: each got its receipt, which the seat
-- noted, and nothing else was noted.
abbrev pub AreSubmitted : Side → SeatState → List (List ℕ) → List Receipt → SeatState → Type 0
AreSubmitted side old bodies [] new = new ≡ old
AreSubmitted side old [] (receipt ∷ receipts) new = ⊥
AreSubmitted side old (body ∷ bodies) (receipt ∷ receipts) new =
    IsReceipt side old (Submit body) receipt × AreSubmitted side (noted old (Submit body) receipt) bodies receipts new

-- Why there are so many receipts and no more: a fault of the next call, which the gate let go, and which is `SeatFull` exactly
-- where the seat is full; no further body; or the gate, which may end the session before the next call. The calls of a session
-- count from 1.
abbrev pub Ends : (ℕ → Type 0) → (ℕ → Type 0) → ℕ → SeatState → ℕ → Option OfficeFault → Type 0
Ends may_go may_end bodies seat receipts (Some fault) = (receipts < bodies) × may_go (receipts + 1) × ((fault ≡ SeatFull) ↔ IsFull seat)
Ends may_go may_end bodies seat receipts None = (receipts ≡ bodies) ⊎ ((receipts < bodies) × may_end (receipts + 1))

-- the gate, which may let some calls go, let the first so many go
abbrev pub AreLetGo : (ℕ → Type 0) → ℕ → Type 0
AreLetGo may_go calls = (before : ℕ) → before < calls → may_go (before + 1)

-- what came of a session, of which a gate lets the calls go, or ends it before one of them
pub record IsServed (side : Side) (may_go may_end : ℕ → Type 0) (session : SessionState) (served : ServedState) : Type 0 where
  pub submitted : AreSubmitted side session.seat session.bodies served.receipts served.seat
  pub let_go : AreLetGo may_go (length served.receipts)
  pub ends : Ends may_go may_end (length session.bodies) served.seat (length served.receipts) served.fault

-- each session was served, in order, none left out and none added; the first of them has this number
abbrev pub AreServed : Side → (ℕ → ℕ → Type 0) → (ℕ → ℕ → Type 0) → ℕ → List SessionState → List ServedState → Type 0
AreServed side may_go may_end number [] [] = Unit {0}
AreServed side may_go may_end number [] (served ∷ others) = ⊥
AreServed side may_go may_end number (session ∷ sessions) [] = ⊥
AreServed side may_go may_end number (session ∷ sessions) (served ∷ others) =
    IsServed side (may_go number) (may_end number) session served × AreServed side may_go may_end (number + 1) sessions others

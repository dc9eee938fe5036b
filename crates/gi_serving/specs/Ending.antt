-- How a script at both running offices ends.
use Rattle.std.specs.Prelude.{◌≡◌, ◌≢◌, ◌⊎◌, ℕ, ◌+◌, List, [], ◌++◌, map, Option, Result, Ok, Err}
use Rattle.std.specs.Io.KnownBytes.{Appends, Keeps}
use Rattle.gi_office.specs.Keeping.{SeatState}
use Rattle.gi_office.specs.Opening.{new_seats}
use Rattle.gi_office.specs.declared.save_fault.SaveFault.{SaveFault}
use Rattle.gi_office.specs.declared.save_fault.SaveFault.TheVariants as savings
use Rattle.gi_script.specs.declared.line.Line.{Line}
use Rattle.gi_serving.specs.Closing.{IsClosed}
use Rattle.gi_serving.specs.Making.{MakesSome, OfficesState, Runs, RunsFirst, RunsSome, WritesSome, new_offices}
use Rattle.gi_serving.specs.Runs.{pieces}
use Rattle.gi_serving.specs.declared.serve_fault.ServeFault.{ServeFault}
use Rattle.gi_serving.specs.declared.serve_fault.ServeFault.TheVariants as faults

-- a seat's number, and its parts of the ledger of its office, which no call changes
abbrev pub place_of : SeatState → ℕ × ℕ
place_of seat = (seat.number, seat.parts)

-- the same seats in the same order, from which more may have been called
abbrev pub AreSamePlaces : List SeatState → List SeatState → Type 0
AreSamePlaces old new = map place_of new ≡ map place_of old

-- all seats of an office that was opened with so many
abbrev pub AreAllSeats : ℕ → List SeatState → Type 0
AreAllSeats seats handed = AreSamePlaces (new_seats seats) handed

-- a fault of a turn that saves, a halted desk aside
abbrev pub IsTurnFault : SaveFault → Type 0
IsTurnFault savings.Halted = ⊥
IsTurnFault (savings.Store fault) = Unit {0}
IsTurnFault (savings.Office fault) = Unit {0}
IsTurnFault (savings.Marked refusal) = Unit {0}

-- A fault of a turn is one that ended the turns of the initiating office, or those of the matching office; memory can run out at any time.
abbrev pub EndsTurnsOf : (SaveFault → Type 0) → (SaveFault → Type 0) → ServeFault → Type 0
EndsTurnsOf ours theirs (faults.Turn fault) = ours fault ⊎ theirs fault
EndsTurnsOf ours theirs faults.OutOfMemory = Unit {0}
EndsTurnsOf ours theirs _ = ⊥

-- it is cut off before both offices are closed: it is told that memory ran out, or a fault of a turn that saves
abbrev pub IsCut : Result (Unit {0}) ServeFault → Type 0
IsCut (Ok done) = ⊥
IsCut (Err faults.OutOfMemory) = Unit {0}
IsCut (Err (faults.Turn fault)) = IsTurnFault fault
IsCut (Err (faults.Unsettled fault)) = ⊥
IsCut (Err (faults.Unreconciled fault)) = ⊥
IsCut (Err faults.Write) = ⊥

-- a writer failed
abbrev pub IsUnwritten : Result (Unit {0}) ServeFault → Type 0
IsUnwritten (Ok done) = ⊥
IsUnwritten (Err faults.Write) = Unit {0}
IsUnwritten (Err _) = ⊥

-- not all was made, or not all of it is written
abbrev pub IsEarly : Result (Unit {0}) ServeFault → Type 0
IsEarly end = IsCut end ⊎ IsUnwritten end

-- nothing is written, but where a writer failed
abbrev pub LeavesNothing : Option (List ℕ) → Option (List ℕ) → ServeFault → Type 0
LeavesNothing before after faults.Write = Unit {0}
LeavesNothing before after _ = Keeps before after

-- What a run that ends early leaves: the pieces of so many lines are made, and what is told of them is written; of a writer that
-- failed, what stands on the output is not said.
abbrev pub LeavesRun : ℕ → List Line → ℕ → OfficesState → Option (List ℕ) → Option (List ℕ) → ServeFault → Type 0
LeavesRun sessions lines count start before after faults.Write = MakesSome sessions lines count start
LeavesRun sessions lines count start before after _ = WritesSome sessions lines count start before after

-- Both offices were closed, and the last lines were written.
pub record ClosesWell (parts peer_parts sessions : ℕ) (reached : OfficesState) (before after : Option (List ℕ)) (end : Result (Unit {0}) ServeFault) : Type 0 where
  pub last : List ℕ
  pub closed : IsClosed parts (sessions + 1) reached.initiating.seats peer_parts (sessions + 1) reached.matching.seats last end
  pub written : Appends before after last

-- that; or memory ran out, and nothing was written; or the writer failed
abbrev pub Closes : ℕ → ℕ → ℕ → OfficesState → Option (List ℕ) → Option (List ℕ) → Result (Unit {0}) ServeFault → Type 0
Closes parts peer_parts sessions reached before after end =
    (Keeps before after × (end ≡ Err faults.OutOfMemory)) ⊎ (end ≡ Err faults.Write) ⊎ ClosesWell parts peer_parts sessions reached before after end

-- a turn that saves answered a fault
abbrev pub IsOfTurn : Result (Unit {0}) ServeFault → Type 0
IsOfTurn (Ok done) = ⊥
IsOfTurn (Err (faults.Turn fault)) = Unit {0}
IsOfTurn (Err _) = ⊥

-- Some of the pieces were made and told of before it was cut off, the first ones in order, and nothing else is told. Of a turn's fault
-- that is before the last piece; memory can run out behind it too. Neither says which turn or call it was.
pub record IsCutOff (sessions : ℕ) (lines : List Line) (text : List ℕ) (end : Result (Unit {0}) ServeFault) : Type 0 where
  pub reached : OfficesState
  pub runs : RunsFirst sessions lines (new_offices sessions) text reached
  pub cut : IsCut end
  pub early : IsOfTurn end → runs.left ≢ []

-- All pieces were made and told of in order, and behind that are the last lines of both offices, each handed all its seats as they
-- are then: those of its sessions, and the main one.
pub record IsWhole (sessions : ℕ) (lines : List Line) (text : List ℕ) (end : Result (Unit {0}) ServeFault) : Type 0 where
  pub front : List ℕ
  pub last : List ℕ
  pub text_is : text ≡ front ++ last
  pub reached : OfficesState
  pub runs : Runs sessions (pieces lines) (new_offices sessions) front reached
  pub all : AreAllSeats (sessions + 1) reached.initiating.seats
  pub peer_all : AreAllSeats (sessions + 1) reached.matching.seats
  pub closed : IsClosed 16 (sessions + 1) reached.initiating.seats 16 (sessions + 1) reached.matching.seats last end

abbrev pub IsOver : ℕ → List Line → List ℕ → Result (Unit {0}) ServeFault → Type 0
IsOver sessions lines text end = IsCutOff sessions lines text end ⊎ IsWhole sessions lines text end

-- the last lines are written, and it ended so; or the writer failed
abbrev pub IsTold : Option (List ℕ) → List ℕ → Result (Unit {0}) ServeFault → Option (List ℕ) → Result (Unit {0}) ServeFault → Type 0
IsTold before last end after result = (result ≡ Err faults.Write) ⊎ (Appends before after last × (result ≡ end))

-- What was written of a run that ended so: of one that was cut off, what is told of so many lines, and no more.
pub record Writes (sessions : ℕ) (lines : List Line) (count : ℕ) (before after : Option (List ℕ)) (end : Result (Unit {0}) ServeFault) : Type 0 where
  pub text : List ℕ
  pub over : IsOver sessions lines text end
  pub told : IsCut end → RunsSome sessions lines count (new_offices sessions) text
  pub written : Appends before after text

-- Where the writer failed the pieces of so many lines were made, and written before; what stands on the output is not said.
abbrev pub Ends : ℕ → List Line → ℕ → Option (List ℕ) → Option (List ℕ) → Result (Unit {0}) ServeFault → Type 0
Ends sessions lines count before after (Err faults.Write) = MakesSome sessions lines count (new_offices sessions)
Ends sessions lines count before after end = Writes sessions lines count before after end

-- Both offices under way: what each piece of a script makes of them, and what is told of it.
use Rattle.std.specs.Prelude.{◌≡◌, ℕ, ◌+◌, List, [], ◌∷◌, ◌++◌, drop, Option}
use Rattle.std.specs.Io.KnownBytes.{Appends}
use Rattle.gi_office.specs.Opening.{new_seats}
use Rattle.gi_pairs.specs.declared.side.Side.{Side}
use Rattle.gi_pairs.specs.declared.side.Side.TheVariants.{I, M}
use Rattle.gi_script.specs.declared.line.Line.{Line}
use Rattle.gi_simulation.specs.Simulation.{new_link}
use Rattle.gi_serving.specs.Asking.{MakesAt, MarksLast, Sends, SideState}
use Rattle.gi_serving.specs.Batches.{batch_text}
use Rattle.gi_serving.specs.Runs.{Batch, Piece, Single, pieces, side_in}
use Rattle.gi_serving.specs.Submitting.{SubmitsBatch, bodies_of}
use Rattle.gi_serving.specs.declared.running.Running.{Running}
use Rattle.gi_serving.specs.declared.word.Word.{Word}

pub record OfficesState : Type 0 where
  pub initiating : SideState
  pub matching : SideState

-- just opened: each with so many sessions, and the main seat; nothing was called, and nothing is on its way
abbrev pub new_side : ℕ → SideState
new_side sessions = record { seats = new_seats (sessions + 1); sent = 0; way = new_link }

abbrev pub new_offices : ℕ → OfficesState
new_offices sessions = record { initiating = new_side sessions; matching = new_side sessions }

-- ---- a piece

-- a line by itself, at its side; the other side is as it was
abbrev pub MakesLine : Side → Line → OfficesState → List ℕ → OfficesState → Type 0
MakesLine I line old text new = (new.matching ≡ old.matching) × MakesAt I line old.initiating text new.initiating
MakesLine M line old text new = (new.initiating ≡ old.initiating) × MakesAt M line old.matching text new.matching

-- a batch, by the sessions of both sides, and its lines with the words of these
pub record MakesBatch (sessions : ℕ) (lines : List Line) (old : OfficesState) (text : List ℕ) (new : OfficesState) : Type 0 where
  pub words : List Word
  pub peer_words : List Word
  pub submits : SubmitsBatch I sessions (bodies_of I lines) old.initiating.seats words new.initiating.seats
  pub peer_submits : SubmitsBatch M sessions (bodies_of M lines) old.matching.seats peer_words new.matching.seats
  pub text_is : text ≡ batch_text lines words peer_words
  pub sent : new.initiating.sent ≡ old.initiating.sent
  pub peer_sent : new.matching.sent ≡ old.matching.sent
  pub way : new.initiating.way ≡ old.initiating.way
  pub peer_way : new.matching.way ≡ old.matching.way

abbrev pub MakesPiece : ℕ → Piece → OfficesState → List ℕ → OfficesState → Type 0
MakesPiece sessions (Single line) old text new = MakesLine (side_in line.instruction) line old text new
MakesPiece sessions (Batch lines) old text new = MakesBatch sessions lines old text new

-- The main seats note the marks of what is saved, and nothing else; and what they were let out that was not sent yet is on its way to
-- the other side.
pub record SavesAndSends (old new : OfficesState) : Type 0 where
  pub marks : MarksLast old.initiating.seats new.initiating.seats
  pub peer_marks : MarksLast old.matching.seats new.matching.seats
  pub orders : Sends old.initiating.sent new.initiating.seats new.initiating.sent old.matching.way new.matching.way
  pub answers : Sends old.matching.sent new.matching.seats new.matching.sent old.initiating.way new.initiating.way

-- a piece is made; then the main seats note marks, if any, and what they were let out is sent
pub record MakesAndSaves (sessions : ℕ) (piece : Piece) (old : OfficesState) (text : List ℕ) (new : OfficesState) : Type 0 where
  pub between : OfficesState
  pub makes : MakesPiece sessions piece old text between
  pub saves : SavesAndSends between new

-- ---- a run

-- pieces are made, one after the other, and told of in that order
abbrev pub Runs : ℕ → List Piece → OfficesState → List ℕ → OfficesState → Type 0
Runs sessions [] old text new = (text ≡ []) × (new ≡ old)
Runs sessions (piece ∷ later) old text new =
    (next : OfficesState) × (said rest : List ℕ)
    × MakesAndSaves sessions piece old said next × Runs sessions later next rest new × (text ≡ said ++ rest)

-- the first pieces of the lines
pub record RunsFirst (sessions : ℕ) (lines : List Line) (old : OfficesState) (text : List ℕ) (new : OfficesState) : Type 0 where
  pub made : List Piece
  pub left : List Piece
  pub all : pieces lines ≡ made ++ left
  pub runs : Runs sessions made old text new

-- the pieces of so many lines
pub record RunsTo (sessions : ℕ) (lines : List Line) (count : ℕ) (old : OfficesState) (text : List ℕ) (new : OfficesState) : Type 0 where
  pub made : List Piece
  pub all : pieces lines ≡ made ++ pieces (drop count lines)
  pub runs : Runs sessions made old text new

-- and so there are offices that were reached so
abbrev pub RunsSome : ℕ → List Line → ℕ → OfficesState → List ℕ → Type 0
RunsSome sessions lines count old text = (reached : OfficesState) × RunsTo sessions lines count old text reached

-- the first piece of the lines, which has so many
pub record MakesFirst (sessions : ℕ) (lines : List Line) (count : ℕ) (old : OfficesState) (text : List ℕ) (new : OfficesState) : Type 0 where
  pub piece : Piece
  pub first : pieces lines ≡ piece ∷ pieces (drop count lines)
  pub makes : MakesPiece sessions piece old text new

-- that and what follows
pub record SavesFirst (sessions : ℕ) (lines : List Line) (count : ℕ) (old : OfficesState) (text : List ℕ) (new : OfficesState) : Type 0 where
  pub piece : Piece
  pub first : pieces lines ≡ piece ∷ pieces (drop count lines)
  pub makes : MakesAndSaves sessions piece old text new

-- ---- what is written of it, behind what the writer holds

-- of the first piece
pub record WritesFirst (sessions : ℕ) (lines : List Line) (count : ℕ) (old : OfficesState) (before after : Option (List ℕ)) (new : OfficesState) : Type 0 where
  pub text : List ℕ
  pub saves : SavesFirst sessions lines count old text new
  pub written : Appends before after text

-- of the pieces of so many lines
pub record WritesTo (sessions : ℕ) (lines : List Line) (count : ℕ) (old : OfficesState) (before after : Option (List ℕ)) (new : OfficesState) : Type 0 where
  pub text : List ℕ
  pub runs : RunsTo sessions lines count old text new
  pub written : Appends before after text

abbrev pub WritesSome : ℕ → List Line → ℕ → OfficesState → Option (List ℕ) → Option (List ℕ) → Type 0
WritesSome sessions lines count old before after = (reached : OfficesState) × WritesTo sessions lines count old before after reached

-- the pieces of so many lines are made, and what stands of that on the output is not said
abbrev pub MakesSome : ℕ → List Line → ℕ → OfficesState → Type 0
MakesSome sessions lines count old = (text : List ℕ) × RunsSome sessions lines count old text

-- ---- the offices as they are kept (`P` and `O` are what their roles receive)

abbrev pub state_of : {R P L S : Type 0} → Running R P L S → SideState
state_of running = record { seats = running.seats.items; sent = running.sent; way = running.way }

abbrev pub offices_of : {R P L S Q O K T : Type 0} → Running R P L S → Running Q O K T → OfficesState
offices_of initiating matching = record { initiating = state_of initiating; matching = state_of matching }

-- Lives of a desk: what it was opened with, and the calls to it in the order in which they were made.
use Rattle.std.specs.Prelude.{◌≡◌, ℕ, List, [], ◌∷◌, length, false}
use Rattle.gi_pairs.specs.declared.side.Side.{Side}
use Rattle.gi_parts.specs.declared.kept_parts.KeptPart.{KeptPart}
use Rattle.gi_facts.specs.declared.fact.Fact.{Fact}
use Rattle.gi_desk.specs.Machine.{DeskState, after, reply}
use Rattle.gi_office.specs.declared.entry.Entry.{Entry}

-- the point, the facts that the desk was opened with, and the calls since, each with its seat and its reply
pub record Life : Type 0 where
  pub point : List ℕ
  pub opening : List Fact
  pub trail : List Entry

-- a desk as it is opened with facts: all of them are saved, and it is not halted; it may keep parts of what the peer sent
abbrev pub opened_keeping : List KeptPart → List ℕ → List Fact → DeskState
opened_keeping kept point facts = record { point = point; facts = facts; saved = length facts; halted = false; kept = kept }

-- one that keeps none, as each is that was made of its facts
abbrev pub opened : List ℕ → List Fact → DeskState
opened point facts = opened_keeping [] point facts

-- from the first state the desk machine gives each entry's reply to its call, in turn, and comes to the last state
abbrev pub IsRun : Side → DeskState → List Entry → DeskState → Type 0
IsRun side first [] last = first ≡ last
IsRun side first (entry ∷ later) last = (entry.reply ≡ reply side first entry.call) × IsRun side (after side first entry.call) later last

-- A life is legal where it is such a run from the desk as it was opened, whatever parts that kept. Its end is the last state.
pub record IsLegal (side : Side) (life : Life) (end : DeskState) : Type 0 where
  pub kept : List KeptPart
  pub run : IsRun side (opened_keeping kept life.point life.opening) life.trail end

-- A whole life begins with nothing kept, as one does that begins with a process: what is kept is in memory alone.
abbrev pub IsWhole : Side → Life → DeskState → Type 0
IsWhole side life end = IsRun side (opened life.point life.opening) life.trail end

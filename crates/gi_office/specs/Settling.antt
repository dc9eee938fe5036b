-- How the lists of the seats stand to the trail.
use Rattle.std.specs.Prelude.{◌≡◌, ◌≢◌, ◌≤◌, ℕ, ◌+◌, ◌-◌, List, [], ◌∷◌, length, map, sum, take, slice_get, find, Bool, nat_eq, if◌then◌else◌, Option, Some, option_map, MatchOption, Result, Ok, Err}
use Rattle.gi_pairs.specs.declared.side.Side.{Side}
use Rattle.gi_facts.specs.declared.fact.Fact.{Fact}
use Rattle.gi_desk.specs.Machine.{DeskState}
use Rattle.gi_office.specs.Keeping.{HeldState, HeldInvariant, SeatState, life_of}
use Rattle.gi_office.specs.Lives.{IsLegal, IsWhole, Life}
use Rattle.gi_office.specs.declared.entry.Entry.{Entry}
use Rattle.gi_office.specs.declared.note.Note.{Note}
use Rattle.gi_office.specs.declared.unsettled.Unsettled.{Unsettled}

-- an entry as its seat notes it
abbrev pub note_of : ℕ → Entry → Note
note_of place entry = record { place = place; call = entry.call; reply = entry.reply }

-- the entries of a seat, in order, each once and with its place; the first entry has the place given
abbrev pub notes_from : ℕ → ℕ → List Entry → List Note
notes_from place number [] = []
notes_from place number (entry ∷ later) =
    if nat_eq entry.seat number then note_of place entry ∷ notes_from (place + 1) number later
    else notes_from (place + 1) number later

abbrev pub notes_of : ℕ → List Entry → List Note
notes_of number trail = notes_from 1 number trail

abbrev pub has_number : ℕ → SeatState → Bool
has_number number seat = nat_eq seat.number number

-- the list of the seat with this number, where it is handed over
abbrev pub notes_at : ℕ → List SeatState → Option (List Note)
notes_at number handed = option_map (λ seat. seat.notes) (find (has_number number) handed)

-- each of the first so many seats is there, and its list is the entries of the seat
abbrev pub AreSettled : ℕ → List Entry → List SeatState → Type 0
AreSettled seats trail handed = (number : ℕ) → 1 ≤ number → number ≤ seats → notes_at number handed ≡ Some (notes_of number trail)

-- two lists are alike before a place, from 1, and differ there
pub record DiffersAt (place : ℕ) (notes entries : List Note) : Type 0 where
  pub some : 1 ≤ place
  pub alike : take (place - 1) notes ≡ take (place - 1) entries
  pub other : slice_get notes (place - 1) ≢ slice_get entries (place - 1)

-- how one seat's list differs: it is not there, which is place 0, or there is a first place
abbrev pub Differs : List Entry → List SeatState → Unsettled → Type 0
Differs trail handed fault = MatchOption (notes_at fault.seat handed) (fault.place ≡ 0) (λ notes. DiffersAt fault.place notes (notes_of fault.seat trail))

-- the first difference, by seat and then by place
pub record IsUnsettled (seats : ℕ) (trail : List Entry) (handed : List SeatState) (fault : Unsettled) : Type 0 where
  pub some : 1 ≤ fault.seat
  pub within : fault.seat ≤ seats
  pub before : AreSettled (fault.seat - 1) trail handed
  pub differs : Differs trail handed fault

-- A desk is opened again where another life of it ended: it is of the same point, and its facts are the first ones of that
-- end, all that were saved there among them.
pub record GoesOn (end : DeskState) (opened_at : List ℕ) (opening : List Fact) : Type 0 where
  pub point : opened_at ≡ end.point
  pub front : opening ≡ take (length opening) end.facts
  pub saved : end.saved ≤ length opening

-- from the end of a life the later ones, if any, go on one after the other, each of them legal, to this end
abbrev pub GoOnTo : Side → DeskState → List Life → DeskState → Type 0
GoOnTo side s [] end = s ≡ end
GoOnTo side s (life ∷ later) end = GoesOn s life.point life.opening × ((t : DeskState) × IsLegal side life t × GoOnTo side t later end)

-- Lives of one desk, one after the other: each is legal and goes on from the end of the one before, and the desk is the end
-- of the last one.
abbrev pub AreLegal : Side → List Life → DeskState → Type 0
AreLegal side [] end = ⊥
AreLegal side (life ∷ later) end = (t : DeskState) × IsLegal side life t × GoOnTo side t later end

-- the same of whole lives, each of which begins with nothing kept
abbrev pub GoOnWhole : Side → DeskState → List Life → DeskState → Type 0
GoOnWhole side s [] end = s ≡ end
GoOnWhole side s (life ∷ later) end = GoesOn s life.point life.opening × ((t : DeskState) × IsWhole side life t × GoOnWhole side t later end)

abbrev pub AreWhole : Side → List Life → DeskState → Type 0
AreWhole side [] end = ⊥
AreWhole side (life ∷ later) end = (t : DeskState) × IsWhole side life t × GoOnWhole side t later end

-- what is left of an office once all its seats came back: its lives, and its desk
pub record SettledState : Type 0 where
  pub lives : List Life
  pub desk : DeskState

abbrev pub settled_of : HeldState → SettledState
settled_of held = record { lives = life_of held ∷ []; desk = held.desk }

-- an office of so many seats settles exactly where every list is the trail's; else the first difference is told
abbrev pub Settles : ℕ → HeldState → List SeatState → Result SettledState Unsettled → Type 0
Settles seats held handed (Ok settled) = (settled ≡ settled_of held) × AreSettled seats held.trail handed
Settles seats held handed (Err fault) = IsUnsettled seats held.trail handed fault

-- how many calls the seats noted, and how many parts of the ledger they have
abbrev pub noted_by : List SeatState → ℕ
noted_by handed = sum (map (λ seat. length seat.notes) handed)

abbrev pub parts_of : List SeatState → ℕ
parts_of handed = sum (map (λ seat. seat.parts) handed)

-- the seats have all parts of a ledger, so none is missing
abbrev pub AreAll : ℕ → List SeatState → Type 0
AreAll parts handed = (1 ≤ parts) × (parts_of handed ≡ parts)

-- where none is missing, the seats noted as many calls as the trail has
abbrev pub CountsAll : ℕ → HeldState → List SeatState → Type 0
CountsAll parts held handed = AreAll parts handed → noted_by handed ≡ length held.trail

-- What a lock kept is not told, but that it was an office like any other. An office of so many seats settles as that one.
pub record SettlesKept (side : Side) (parts seats : ℕ) (handed : List SeatState) (result : Result SettledState Unsettled) : Type 0 where
  pub held : HeldState
  pub kept : HeldInvariant side held
  pub settles : Settles seats held handed result
  pub counted : CountsAll parts held handed

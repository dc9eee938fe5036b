-- What a reader gives of an input, and of lines that come beside it.
use Rattle.std.specs.Prelude.{◌≡◌, ◌==◌, if◌then◌else◌, ℕ, Bool, ◌++◌, [], ◌∷◌, List, None, Some, IfSome, Option, Result, Ok, Err}
use Rattle.std.specs.List.{list_any}
use Rattle.gi_text.specs.Lines.{line_feed}
use Rattle.gi_clock.specs.declared.events.Event.{Event}
use Rattle.gi_clock.specs.declared.events.Event.TheVariants as event

-- an event: the line that came beside the input, or none, and what came of the input, or nothing
pub record Came : Type 0 where
  pub line : List ℕ
  pub bytes : List ℕ

-- whether there is a line feed among the bytes; all up to the last one, and what is behind it
abbrev pub has_feed : List ℕ → Bool
has_feed bytes = list_any (λ byte. byte == line_feed) bytes

abbrev pub whole_lines : List ℕ → List ℕ
whole_lines [] = []
whole_lines (byte ∷ bytes) = if has_feed (byte ∷ bytes) then byte ∷ whole_lines bytes else []

abbrev pub open_line : List ℕ → List ℕ
open_line [] = []
open_line (byte ∷ bytes) = if has_feed (byte ∷ bytes) then open_line bytes else byte ∷ bytes

-- What is given of the events, behind bytes of the input that no line feed has ended yet: each line from beside the input,
-- and then the lines of the input that came whole with it, in their order; at the end what no line feed ended.
unfoldable pub told : List ℕ → List Came → List ℕ
told begun [] = begun
told begun (came ∷ rest) =
    came.line
    ++ (if has_feed came.bytes
    then begun ++ (whole_lines came.bytes ++ told (open_line came.bytes) rest)
    else told (begun ++ came.bytes) rest)

-- a wait gives the first of the events that are left, and tells the end only where none is left
abbrev pub TakesEvent : {E : Type 0} → Option (List Came) → Option (List Came) → Result Event E → Type 0
TakesEvent old new (Ok (event.Came line bytes)) =
    IfSome old (λ events. (rest : List Came) × (events ≡ record { line = line.items; bytes = bytes.items } ∷ rest) × (new ≡ Some rest))
TakesEvent old new (Ok event.End) = IfSome old (λ events. (events ≡ []) × (new ≡ Some [])) × IfSome new (λ events. events ≡ [])
TakesEvent old new (Err fault) = IfSome old (λ events. new ≡ Some events)

-- all that is given of an input, where it is known what will come
abbrev pub all_told : Option (List Came) → Option (List ℕ)
all_told None = None
all_told (Some events) = Some (told [] events)

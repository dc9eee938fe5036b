-- The parts in which an order or a response comes, and those that are kept of a cycle while others are missing.
use Rattle.std.specs.Prelude.{◌≤◌, ◌<◌, ℕ, List, [], ◌∷◌, ◌++◌, length, map, filter, nat_eq, ◌==◌, All, Bool, not, if◌then◌else◌, Option, Some, None, IfSome}
use Rattle.std.specs.List.{IsDistinct, list_any}
use Rattle.gi_pairs.specs.Table.{HasShapeOf, TableContents}
use Rattle.gi_pairs.specs.declared.cycle_id.CycleId.{CycleId}
use Rattle.gi_pairs.specs.declared.row.Row.{Row}
use Rattle.gi_messages.specs.Limits.{elements_of, most_confirmed_elements, most_parts, most_processed_elements}
use Rattle.gi_messages.specs.declared.message.Delord.{Delord}
use Rattle.gi_messages.specs.declared.message.Delres.{Delres}
use Rattle.gi_facts.specs.Same.{same_cycle}
use Rattle.gi_parts.specs.declared.part.Array.{Array}
use Rattle.gi_parts.specs.declared.part.Array.TheVariants.{Processed, Confirmed}
use Rattle.gi_parts.specs.declared.part.Part.{Part}
use Rattle.gi_parts.specs.declared.kept_parts.KeptPart.{KeptPart}

-- an order and a response as the part that they are; an order confirms nothing
abbrev pub part_of_order : Delord → Part
part_of_order message = record { number = message.part; parts = message.parts; processed = message.processed; confirmed = None }

abbrev pub part_of_response : Delres → Part
part_of_response message = record { number = message.part; parts = message.parts; processed = message.processed; confirmed = Some message.confirmed }

-- the rows of either array
abbrev pub rows_of : Option TableContents → List Row
rows_of None = []
rows_of (Some table) = table.rows

abbrev pub rows_in : Array → Part → List Row
rows_in Processed part = part.processed.rows
rows_in Confirmed part = rows_of part.confirmed

-- What holds of each part that can be read: it is one of few, each array has few rows, and both are for the same hours.
pub record IsSent (part : Part) : Type 0 where
  pub from : 1 ≤ part.number
  pub to : part.number ≤ part.parts
  pub few_parts : part.parts ≤ most_parts
  pub few : length part.processed.rows ≤ elements_of most_processed_elements part.parts
  pub few_confirmed : length (rows_in Confirmed part) ≤ elements_of most_confirmed_elements part.parts
  pub same_hours : IfSome part.confirmed (HasShapeOf part.processed)

-- the parts that are kept of a cycle, in the order in which they came, and how many they are
abbrev pub is_of : CycleId → KeptPart → Bool
is_of id one = same_cycle one.id id

abbrev pub parts_of : CycleId → List KeptPart → List Part
parts_of id kept = map (λ one. one.part) (filter (is_of id) kept)

abbrev pub count_of : CycleId → List KeptPart → ℕ
count_of id kept = length (parts_of id kept)

-- whether one with the number of a part is among others
abbrev pub is_there : Part → List Part → Bool
is_there part others = list_any (λ one. part.number == one.number) others

-- what is kept with one part more of a cycle; one that is there already changes nothing
abbrev pub with_kept : CycleId → Part → List KeptPart → List KeptPart
with_kept id part kept = if is_there part (parts_of id kept) then kept else kept ++ record { id = id; part = part } ∷ []

-- what is kept of the other cycles
abbrev pub without : CycleId → List KeptPart → List KeptPart
without id kept = filter (λ one. not (is_of id one)) kept

-- What holds of the parts that are kept of a cycle: each can be read, no number comes twice, and at least one is missing.
pub record AreSome (parts : List Part) : Type 0 where
  pub sent : All IsSent parts
  pub distinct : IsDistinct nat_eq (map (λ one. one.number) parts)
  pub missing : All (λ one. length parts < one.parts) parts

-- and so of each cycle
abbrev pub AreKept : List KeptPart → Type 0
AreKept kept = (id : CycleId) → AreSome (parts_of id kept)

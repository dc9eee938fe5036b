-- What a part comes to with those that are kept of its cycle.
use Rattle.std.specs.Prelude.{◌≡◌, ◌⊎◌, ◌+◌, ◌==◌, List, ◌++◌, length, Bool, not, ◌&&◌, ◌||◌, nat_lt, if◌then◌else◌, option_map, IsTrue}
use Rattle.std.specs.Cmp.Lexicographic.{pointwise}
use Rattle.std.specs.List.{flat_map, list_all}
use Rattle.gi_pairs.specs.Limits.{most_processed_rows, most_rows}
use Rattle.gi_pairs.specs.Row.{row_eq}
use Rattle.gi_pairs.specs.Table.{TableContents, in_order, keys_of, repeats, same_hours}
use Rattle.gi_pairs.specs.declared.cycle_id.CycleId.{CycleId}
use Rattle.gi_pairs.specs.declared.row.Row.{Row}
use Rattle.gi_parts.specs.Parts.{IsSent, is_there, parts_of, rows_in}
use Rattle.gi_parts.specs.declared.gathered.Gathered.{Gathered}
use Rattle.gi_parts.specs.declared.gathered.Gathered.TheVariants.{Complete, Keep, Refused}
use Rattle.gi_parts.specs.declared.gathered.PartFault.TheVariants.{OutOfMemory, PartDiffers, PartsOverlap, TooManyRows}
use Rattle.gi_parts.specs.declared.kept_parts.KeptPart.{KeptPart}
use Rattle.gi_parts.specs.declared.part.Array.{Array}
use Rattle.gi_parts.specs.declared.part.Array.TheVariants.{Processed, Confirmed}
use Rattle.gi_parts.specs.declared.part.Part.{Part}
use Rattle.gi_parts.specs.declared.part.Whole.{Whole}

-- whether it is a whole message
abbrev pub is_whole : Part → Bool
is_whole part = part.parts == 1

-- a part goes with another one: both are for the same hours and of as many parts, and the same part has the same rows
abbrev pub same_rows : Part → Part → Bool
same_rows a b = pointwise row_eq (rows_in Processed a) (rows_in Processed b) && pointwise row_eq (rows_in Confirmed a) (rows_in Confirmed b)

abbrev pub goes_with : Part → Part → Bool
goes_with part other = same_hours part.processed other.processed && ((part.parts == other.parts) && (not (part.number == other.number) || same_rows part other))

abbrev pub go_together : Part → List Part → Bool
go_together part others = list_all (goes_with part) others

-- it is there already, or others are missing besides it
abbrev pub is_awaiting : Part → List Part → Bool
is_awaiting part others = is_there part others || nat_lt (length others + 1) part.parts

-- the rows of an array in all parts
abbrev pub all_rows : Array → Part → List Part → List Row
all_rows array part others = flat_map (rows_in array) others ++ rows_in array part

abbrev pub all_processed : Part → List Part → List Row
all_processed part others = all_rows Processed part others

abbrev pub all_confirmed : Part → List Part → List Row
all_confirmed part others = all_rows Confirmed part others

-- a pair and direction stands twice in either array; either has too many rows
abbrev pub overlap : List Row → List Row → Bool
overlap processed confirmed = repeats (keys_of processed) || repeats (keys_of confirmed)

abbrev pub are_too_many : List Row → List Row → Bool
are_too_many processed confirmed = nat_lt most_processed_rows (length processed) || nat_lt most_rows (length confirmed)

-- the tables that these rows make, for the hours of a part; what an order confirms is nothing
abbrev pub table_of : Part → List Row → TableContents
table_of part rows = record { first = part.processed.first; last = part.processed.last; rows = in_order rows }

abbrev pub whole_of : Part → List Row → List Row → Whole
whole_of part processed confirmed = record { processed = table_of part processed; confirmed = option_map (λ one. table_of part confirmed) part.confirmed }

abbrev pub joined_with : Part → List Row → List Row → Gathered
joined_with part processed confirmed =
    if overlap processed confirmed then Refused PartsOverlap
    else (if are_too_many processed confirmed then Refused TooManyRows
    else Complete (whole_of part processed confirmed))

-- What a part comes to with the others of its cycle. A whole message is all that there is. Else it is kept until it is the last one missing, and
-- then all parts together make the tables.
abbrev pub gathered_with : Part → List Part → Gathered
gathered_with part others =
    if is_whole part then Complete (record { processed = part.processed; confirmed = part.confirmed })
    else (if not (go_together part others) then Refused (PartDiffers part.number)
    else (if is_awaiting part others then Keep part
    else joined_with part (all_rows Processed part others) (all_rows Confirmed part others)))

abbrev pub gathered : CycleId → List KeptPart → Part → Gathered
gathered id kept part = gathered_with part (parts_of id kept)

-- so it is answered, or that memory ran out, where there are several parts
abbrev pub IsGathered : CycleId → List KeptPart → Part → Gathered → Type 0
IsGathered id kept part got = (got ≡ gathered id kept part) ⊎ (IsTrue (not (is_whole part)) × (got ≡ Refused OutOfMemory))

-- a part that is to be kept
pub record CanKeep (id : CycleId) (kept : List KeptPart) (part : Part) : Type 0 where
  pub sent : IsSent part
  pub awaits : gathered id kept part ≡ Keep part

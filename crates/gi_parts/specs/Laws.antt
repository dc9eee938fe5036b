-- What holds of all tables that go out in parts.
use Rattle.std.specs.Prelude.{◌≡◌, ◌≢◌, ◌≤◌, ℕ, ◌*◌, List, [], ◌∷◌, ◌++◌, length, map, All, Contains, if◌then◌else◌}
use Rattle.std.specs.Int.{IsInRange}
use Rattle.std.specs.List.{flat_map, range_with_len}
use Rattle.gi_pairs.specs.Table.{TableContents}
use Rattle.gi_pairs.specs.declared.cycle_id.CycleId.{CycleId}
use Rattle.gi_messages.specs.Limits.{most_part_elements}
use Rattle.gi_parts.specs.Gathering.{gathered, is_awaiting}
use Rattle.gi_parts.specs.Parts.{AreKept, IsSent, count_of, parts_of, with_kept, without}
use Rattle.gi_parts.specs.Splitting.{IsPartOf, IsSendable, part_of_table, part_of_whole, parts_of_whole}
use Rattle.gi_parts.specs.declared.gathered.Gathered.{Gathered}
use Rattle.gi_parts.specs.declared.gathered.Gathered.TheVariants.{Complete, Keep, Refused}
use Rattle.gi_parts.specs.declared.kept_parts.KeptPart.{KeptPart}
use Rattle.gi_parts.specs.declared.part.Part.{Part}
use Rattle.gi_parts.specs.declared.part.Whole.{Whole}

-- The parts of a table, as many as have room for its rows, have one after the other all rows, and no row twice.
abbrev pub CarriesAllRows : Type 0
CarriesAllRows =
    (table : TableContents) (parts : ℕ) → length table.rows ≤ most_part_elements * parts
    → flat_map (λ number. (part_of_table number table).rows) (range_with_len 1 parts) ≡ table.rows

-- each part of an order or a response can be read
abbrev pub SendsReadableParts : Type 0
SendsReadableParts = (whole : Whole) (part : Part) → IsSendable whole → IsPartOf whole part → IsSent part

-- Where all that is kept of a cycle are parts of the same tables, one more of these parts is kept while it is there or another one is missing, and
-- then it comes to exactly these tables. So it is never refused.
abbrev pub GathersWhatWasSplit : Type 0
GathersWhatWasSplit =
    (whole : Whole) (id : CycleId) (kept : List KeptPart) (part : Part) → IsSendable whole → AreKept kept → All (IsPartOf whole) (parts_of id kept) → IsPartOf whole part
    → gathered id kept part ≡ (if is_awaiting part (parts_of id kept) then Keep part else Complete whole)

-- what is kept after what a part came to
abbrev pub kept_after : CycleId → List KeptPart → Gathered → List KeptPart
kept_after id kept (Keep part) = with_kept id part kept
kept_after id kept (Complete whole) = without id kept
kept_after id kept (Refused fault) = kept

-- what parts of a cycle come to, one after the other
abbrev pub come_to : CycleId → List KeptPart → List Part → List Gathered
come_to id kept [] = []
come_to id kept (part ∷ parts) = gathered id kept part ∷ come_to id (kept_after id kept (gathered id kept part)) parts

-- Numbers in which each from 1 to so many stands, and the last of which stands there once alone.
pub record AreAllNumbers (parts : ℕ) (numbers : List ℕ) (last : ℕ) : Type 0 where
  pub range : All (IsInRange 1 parts) (last ∷ numbers)
  pub all : (number : ℕ) → IsInRange 1 parts number → Contains (last ∷ numbers) number
  pub first_time : All (λ number. number ≢ last) numbers

-- Split, then taken in any order, each part at least once: those before the last missing one are kept, and that one gives exactly the tables.
abbrev pub GathersInAnyOrder : Type 0
GathersInAnyOrder =
    (whole : Whole) (id : CycleId) (kept : List KeptPart) (numbers : List ℕ) (last : ℕ) → IsSendable whole → AreKept kept → count_of id kept ≡ 0
    → AreAllNumbers (parts_of_whole whole) numbers last
    → let parts = map (part_of_whole whole) numbers in
    come_to id kept (parts ++ part_of_whole whole last ∷ []) ≡ map Keep parts ++ Complete whole ∷ []

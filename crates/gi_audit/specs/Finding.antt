-- What is found of a cycle at two desks.
use Rattle.std.specs.Prelude.{ℕ, Bool, true, false, nat_eq, if◌then◌else◌, Option, Some, None}
use Rattle.std.specs.List.{sum, sum_by}
use Rattle.gi_pairs.specs.Direction.{place_of}
use Rattle.gi_pairs.specs.Table.{TableContents, table_eq}
use Rattle.gi_pairs.specs.declared.cycle_id.CycleId.{CycleId}
use Rattle.gi_pairs.specs.declared.direction.Direction.{Direction}
use Rattle.gi_pairs.specs.declared.direction.Direction.TheVariants.{IM, MI}
use Rattle.gi_pairs.specs.declared.row.Row.{Row}
use Rattle.gi_pairs.specs.declared.side.Side.{Side}
use Rattle.gi_pairs.specs.declared.side.Side.TheVariants.{I, M}
use Rattle.gi_desk.specs.History.{is_closed, is_closing, is_meeting, number_of, peer_of}
use Rattle.gi_desk.specs.Machine.{DeskState}
use Rattle.gi_desk.specs.Queries.{confirmed}
use Rattle.gi_world.specs.Agreement.{saved_facts}
use Rattle.gi_audit.specs.Sent.{sent_table}
use Rattle.gi_audit.specs.declared.difference.Difference.{Difference}
use Rattle.gi_audit.specs.declared.difference.Against.{Against}
use Rattle.gi_audit.specs.declared.difference.Against.TheVariants.{NotClosed, NotMet, Closed}
use Rattle.gi_audit.specs.declared.finding.Finding.{Finding}
use Rattle.gi_audit.specs.declared.finding.Finding.TheVariants.{Agreed, OpenAtInitiating, OpenAtBoth, Differs}

-- the number of the saved fact that closed the cycle
abbrev pub closing_within : DeskState → CycleId → Option ℕ
closing_within s id = if is_closed id (saved_facts s) then Some (number_of (is_closing id) s.facts) else None

-- What of a side is against a table that the other one met: it has not closed the cycle; it has written no table of it, as
-- it met none; or it has written another one.
abbrev pub against_by : TableContents → Option ℕ → Option TableContents → Option Against
against_by met None sent = Some NotClosed
against_by met (Some closing) None = Some NotMet
against_by met (Some closing) (Some sent) = if table_eq met sent then None else Some (Closed closing)

abbrev pub against : Side → DeskState → CycleId → TableContents → Option Against
against side s id met = against_by met (closing_within s id) (sent_table side s id)

abbrev pub difference_with : Side → ℕ → Option Against → Option Difference
difference_with side n None = None
difference_with side n (Some what) = Some (record { side = side; met = n; against = what })

abbrev pub difference_of : Side → Side → DeskState → DeskState → CycleId → Option TableContents → Option Difference
difference_of side other s peer id None = None
difference_of side other s peer id (Some met) = difference_with side (number_of (is_meeting id) s.facts) (against other peer id met)

-- How the table that a side met of a cycle differs from what its peer, the other side, has written.
unfoldable pub difference : Side → Side → DeskState → DeskState → CycleId → Option Difference
difference side other s peer id = difference_of side other s peer id (peer_of id s.facts)

-- what a row, and a table, has in a direction, in kWh over all hours
abbrev pub row_total : Direction → Row → ℕ
row_total direction row = if nat_eq (place_of row.direction) (place_of direction) then sum row.hours else 0

abbrev pub total : Direction → TableContents → ℕ
total direction table = sum_by (row_total direction) table.rows

-- The state of a cycle where nothing differs, by what both have confirmed of it. The matching side confirms first, so where it
-- has not, the initiating side has not either.
abbrev pub undisputed : Option TableContents → Option TableContents → Finding
undisputed (Some ours) (Some theirs) = Agreed (total IM ours) (total MI ours)
undisputed None (Some theirs) = OpenAtInitiating
undisputed ours None = OpenAtBoth

abbrev pub found_by : Option Difference → Option Difference → Finding → Finding
found_by (Some first) second other = Differs first
found_by None (Some second) other = Differs second
found_by None None other = other

-- What is found of a cycle: that a table differs, first the one that the matching side met, or how far both sides are.
unfoldable pub finding : DeskState → DeskState → CycleId → Finding
finding initiating matching id =
    found_by (difference M I matching initiating id) (difference I M initiating matching id) (undisputed (confirmed I initiating id) (confirmed M matching id))

abbrev pub is_difference : Finding → Bool
is_difference (Differs difference) = true
is_difference (Agreed im mi) = false
is_difference OpenAtInitiating = false
is_difference OpenAtBoth = false

abbrev pub is_agreed : Finding → Bool
is_agreed (Agreed im mi) = true
is_agreed OpenAtInitiating = false
is_agreed OpenAtBoth = false
is_agreed (Differs difference) = false

-- a table of the cycle differs
unfoldable pub differs : DeskState → DeskState → CycleId → Bool
differs initiating matching id = is_difference (finding initiating matching id)

-- the cycle is agreed: both have confirmed it, and no table differs
unfoldable pub agrees : DeskState → DeskState → CycleId → Bool
agrees initiating matching id = is_agreed (finding initiating matching id)

-- What holds of all tables.
use Rattle.std.specs.Prelude.{◌≡◌, ◌<◌, ◌≤◌, ℕ, suc, ◌+◌, ◌*◌, ◌-◌, List, ◌∷◌, codes, drop, length, take}
use Rattle.std.specs.List.{sum_by}
use Rattle.gi_pairs.specs.declared.direction.Direction.{Direction}
use Rattle.gi_picture.specs.Quantities.{in_force_of, nominated_of, own_cut, peer_cut, peers_of, processed_of, value_if}
use Rattle.gi_picture.specs.Values.{total, value_or_none}
use Rattle.gi_picture.specs.declared.hour.Amounts.{Amounts}
use Rattle.gi_picture.specs.declared.hour.Hour.{Hour}
use Rattle.gi_day_tables.specs.Columns.{column_of, flow_of, sum_of, values_of}
use Rattle.gi_day_tables.specs.CutLines.{cut_by, cut_runs}
use Rattle.gi_day_tables.specs.Cuts.{rest_sum, shown_groups}
use Rattle.gi_day_tables.specs.declared.column.Column.{Column}
use Rattle.gi_day_tables.specs.declared.column.Column.TheVariants.{Cut, InForce, Nominated, OwnCut, PeerCut, Peers, Processed}
use Rattle.gi_day_tables.specs.declared.flow_hour.FlowHour.{FlowHour}
use Rattle.gi_day_tables.specs.declared.flow_run.FlowRun.{FlowRun}
use Rattle.gi_day_tables.specs.declared.row_cut.RowCut.{RowCut}

-- A sum is that of what its column shows of the hours; what shows nothing adds nothing.
abbrev pub SumsWhatIsShown : Type 0
SumsWhatIsShown = (column : Column) (hours : List FlowHour) → value_or_none (sum_of column hours) ≡ sum_by (λ hour. value_or_none (column_of column hour)) hours

-- amounts as they are: no more is in force than this side processed, and no more was processed than is nominated
pub record AreCut (amounts : Amounts) : Type 0 where
  pub in_force : amounts.in_force ≤ amounts.processed
  pub processed : amounts.processed ≤ amounts.nominated

-- A cut is what is nominated less what is in force, and all of it is told as a part of this side's own and a part of the
-- peer's.
pub record TellsCut (hour : FlowHour) : Type 0 where
  pub cut : column_of Cut hour ≡ value_if hour.cycle (hour.amounts.nominated - hour.amounts.in_force)
  pub parts : value_or_none (column_of Cut hour) ≡ value_or_none (column_of OwnCut hour) + value_or_none (column_of PeerCut hour)

abbrev pub TellsCuts : Type 0
TellsCuts = (hour : FlowHour) → AreCut hour.amounts → TellsCut hour

-- Who is named: this side's own capacity where the peer cuts nothing, and the peer where this side's own capacity cuts
-- nothing and the peer something.
pub record NamesWhoCuts (amounts : Amounts) : Type 0 where
  pub own : peer_cut amounts ≡ 0 → cut_by amounts ≡ codes "own"
  pub peer : own_cut amounts ≡ 0 → 1 ≤ peer_cut amounts → cut_by amounts ≡ codes "peer"
  pub both : 1 ≤ own_cut amounts → 1 ≤ peer_cut amounts → cut_by amounts ≡ codes "both"

abbrev pub NamesCutters : Type 0
NamesCutters = (amounts : Amounts) → AreCut amounts → NamesWhoCuts amounts

-- The table by hour shows of each hour and direction what the charts draw.
pub record ShowsWhatIsDrawn (direction : Direction) (hour : Hour) : Type 0 where
  pub nominated : column_of Nominated (flow_of direction hour) ≡ nominated_of direction hour
  pub processed : column_of Processed (flow_of direction hour) ≡ processed_of direction hour
  pub peers : column_of Peers (flow_of direction hour) ≡ peers_of direction hour
  pub in_force : column_of InForce (flow_of direction hour) ≡ in_force_of direction hour

abbrev pub ShowsAllAsDrawn : Type 0
ShowsAllAsDrawn = (direction : Direction) (hour : Hour) → ShowsWhatIsDrawn direction hour

-- Each group of cuts is shown or counted in the foot.
abbrev pub CountsEachGroup : Type 0
CountsEachGroup = (cuts : List RowCut) → shown_groups cuts + length (drop (shown_groups cuts) cuts) ≡ length cuts

-- The cuts of the groups that are shown, and the sum in the foot, are those of all rows.
abbrev pub SumsEachGroup : Type 0
SumsEachGroup = (cuts : List RowCut) → rest_sum (take (shown_groups cuts) cuts) + rest_sum (drop (shown_groups cuts) cuts) ≡ rest_sum cuts

-- how many lines groups take
abbrev pub lines_of : List RowCut → ℕ
lines_of cuts = sum_by (λ cut. cut.lines) cuts

-- groups as many as are shown: they have 100 lines at most, and with the next they would have more
pub record ShowsWhatFits (cuts : List RowCut) (shown : ℕ) : Type 0 where
  pub most : lines_of (take shown cuts) ≤ 100
  pub next : shown < length cuts → 100 < lines_of (take (suc shown) cuts)

-- As many groups are shown as have room, where the first has.
abbrev pub ShowsGroups : Type 0
ShowsGroups = (first : RowCut) (cuts : List RowCut) → first.lines ≤ 100 → ShowsWhatFits (first ∷ cuts) (shown_groups (first ∷ cuts))

-- what a line tells: its cut, in each of its hours
abbrev pub line_sum : FlowRun → ℕ
line_sum run = run.hours * value_or_none (column_of Cut run.first)

-- The lines of a group tell all that its head says.
abbrev pub LinesTellAll : Type 0
LinesTellAll = (hours : List FlowHour) → sum_by line_sum (cut_runs hours) ≡ total (values_of Cut hours)

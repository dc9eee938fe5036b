-- The page of a gas day of a side.
use Rattle.std.specs.Prelude.{◌≡◌, ℕ, zero, suc, List, [], ◌∷◌, ◌++◌, length, take, slice_get, Option, Some, None}
use Rattle.std.specs.List.{flat_map}
use Rattle.jiff_core.specs.declared.civil.date.Date.{Date}
use Rattle.gi_day.specs.Cycles.{cycle_count, hour_count}
use Rattle.gi_pairs.specs.declared.key.Key.{Key}
use Rattle.gi_pairs.specs.declared.side.Side.{Side}
use Rattle.gi_desk.specs.Machine.{DeskState}
use Rattle.gi_picture.specs.declared.hour.Hour.{Hour}
use Rattle.gi_day_tables.specs.ByHour.{hour_section}
use Rattle.gi_day_tables.specs.Cuts.{IsLargestFirst, cut_group, cut_heads, cut_rows, cuts_end, cuts_foot, no_cuts, shown_groups}
use Rattle.gi_day_tables.specs.Pairs.{pair_heads, pair_row, pairs_foot}
use Rattle.gi_day_tables.specs.declared.cycle_mark.CycleMark.{CycleMark}
use Rattle.gi_day_tables.specs.declared.row_cut.RowCut.{RowCut}
use Rattle.gi_page.specs.Flows.{flow_hours, hours_of}
use Rattle.gi_page.specs.Keys.{page_keys}
use Rattle.gi_page.specs.Marks.{marks_of}
use Rattle.gi_page.specs.Sections.{empty_part, front_part, head_part, top_part}
use Rattle.gi_page.specs.Shown.{hour_cycles}
use Rattle.gi_page.specs.Style.{page_end}
use Rattle.gi_page.specs.declared.hour_cycles.HourCycles.{HourCycles}
use Rattle.gi_page.specs.declared.subject.Subject.{Subject}

-- ---- pairs

abbrev pub row_text : Side → DeskState → Date → List HourCycles → Key → List ℕ
row_text side s day cycles key = pair_row key (flow_hours side s day cycles key)

abbrev pub row_texts : Side → DeskState → Date → List HourCycles → List Key → List ℕ
row_texts side s day cycles keys = flat_map (row_text side s day cycles) keys

unfoldable pub pairs_part : Side → DeskState → Date → List HourCycles → List Key → List Hour → List ℕ
pairs_part side s day cycles keys hours = pair_heads ++ (row_texts side s day cycles keys ++ pairs_foot hours)

-- ---- cuts

-- what the row at a place is cut by
abbrev pub cut_if : Side → DeskState → Date → List HourCycles → ℕ → Option Key → List RowCut
cut_if side s day cycles place None = []
cut_if side s day cycles place (Some key) = cut_rows place (flow_hours side s day cycles key)

-- of the first so many rows
abbrev pub cuts_below : Side → DeskState → Date → List HourCycles → List Key → ℕ → List RowCut
cuts_below side s day cycles keys zero = []
cuts_below side s day cycles keys (suc place) = cuts_below side s day cycles keys place ++ cut_if side s day cycles place (slice_get keys place)

abbrev pub cuts_of : Side → DeskState → Date → List HourCycles → List Key → List RowCut
cuts_of side s day cycles keys = cuts_below side s day cycles keys (length keys)

abbrev pub group_if : Side → DeskState → Date → List HourCycles → Option Key → List ℕ
group_if side s day cycles None = []
group_if side s day cycles (Some key) = cut_group (length cycles) key (flow_hours side s day cycles key)

abbrev pub group : Side → DeskState → Date → List HourCycles → List Key → RowCut → List ℕ
group side s day cycles keys cut = group_if side s day cycles (slice_get keys cut.place)

abbrev pub groups : Side → DeskState → Date → List HourCycles → List Key → List RowCut → List ℕ
groups side s day cycles keys cuts = flat_map (group side s day cycles keys) cuts

unfoldable pub shown_cuts : Side → DeskState → Date → List HourCycles → List Key → List RowCut → List ℕ
shown_cuts side s day cycles keys cuts = cut_heads ++ (groups side s day cycles keys (take (shown_groups cuts) cuts) ++ (cuts_foot cuts ++ cuts_end))

-- a sentence where no row is cut
unfoldable pub cuts_part : Side → DeskState → Date → List HourCycles → List Key → List RowCut → List ℕ
cuts_part side s day cycles keys [] = no_cuts
cuts_part side s day cycles keys (cut ∷ cuts) = shown_cuts side s day cycles keys (cut ∷ cuts)

-- ---- the whole

unfoldable pub rows_part : Side → DeskState → Date → List HourCycles → List Key → List Hour → List RowCut → List ℕ
rows_part side s day cycles keys hours cuts =
    cuts_part side s day cycles keys cuts ++ (hour_section (length cycles) hours ++ pairs_part side s day cycles keys hours)

unfoldable pub full_part : Side → DeskState → Date → List HourCycles → List Key → List Hour → List CycleMark → List RowCut → List ℕ
full_part side s day cycles keys hours marks cuts = top_part side keys (length cycles) hours marks ++ rows_part side s day cycles keys hours cuts

unfoldable pub main_part : Side → DeskState → Date → List HourCycles → List Key → List Hour → List CycleMark → List RowCut → List ℕ
main_part side s day cycles [] hours marks cuts = empty_part hours marks
main_part side s day cycles (key ∷ keys) hours marks cuts = full_part side s day cycles (key ∷ keys) hours marks cuts

abbrev pub subject_of : Side → DeskState → Date → Subject
subject_of side s day = record { point = s.point; side = side; day = day; facts = length s.facts; count = hour_count day }

unfoldable pub text_of : Subject → Side → DeskState → Date → List HourCycles → List Key → List Hour → List CycleMark → List RowCut → List ℕ
text_of subject side s day cycles keys hours marks cuts =
    front_part subject ++ (head_part subject hours marks ++ (main_part side s day cycles keys hours marks cuts ++ page_end))

-- what the page is made of: the cycles of each hour, the rows, the sums and the cycles of the day
abbrev pub cycles_of : Side → DeskState → Date → List HourCycles
cycles_of side s day = hour_cycles side s day (hour_count day)

abbrev pub day_hours : Side → DeskState → Date → List Hour
day_hours side s day = hours_of side s day (page_keys side s day) (cycles_of side s day)

abbrev pub day_cuts : Side → DeskState → Date → List RowCut
day_cuts side s day = cuts_of side s day (cycles_of side s day) (page_keys side s day)

abbrev pub day_marks : Side → DeskState → Date → List CycleMark
day_marks side s day = marks_of side s day (cycle_count day)

-- The page of a gas day is a function of the desk, the day, and the order of the cuts, of which the largest comes first.
pub record IsPage (side : Side) (s : DeskState) (day : Date) (text : List ℕ) : Type 0 where
  pub cuts : List RowCut
  pub ordered : IsLargestFirst (day_cuts side s day) cuts
  pub written : text ≡ text_of (subject_of side s day) side s day (cycles_of side s day) (page_keys side s day) (day_hours side s day) (day_marks side s day) cuts

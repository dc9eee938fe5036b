-- What `report`, `explain` and `page` write of a desk.
use Rattle.std.specs.Prelude.{◌≡◌, ◌⊎◌, ℕ, List, [], length, Option, None, Some, Ok, Err, false}
use Rattle.std.specs.Io.KnownBytes.{Appends}
use Rattle.gi_pairs.specs.Code.{IsCode}
use Rattle.gi_pairs.specs.declared.side.Side.{Side}
use Rattle.gi_desk.specs.Machine.{DeskState, bad_fact}
use Rattle.gi_facts.specs.declared.fact.Fact.{Fact}
use Rattle.gi_explanations.specs.Explanation.{explanation}
use Rattle.gi_explanations.specs.Json.{explanation_objects, object_lines}
use Rattle.gi_explanations.specs.declared.question.Question.{Question}
use Rattle.gi_exports.specs.Csv.{IsConfirmedCsv, IsOpenCsv, refused_text}
use Rattle.gi_exports.specs.Json.{IsConfirmedJson, IsOpenJson, count_data, json_lines}
use Rattle.gi_reports.specs.Confirmed.{IsConfirmedReport}
use Rattle.gi_reports.specs.Open.{IsOpenReport}
use Rattle.gi_reports.specs.Refused.{refused_counts, refused_lines}
use Rattle.gi_changes.specs.Forms.{IsChangeCsv, IsChangeJson, IsChangeText}
use Rattle.gi_page.specs.Page.{IsPage}
use Rattle.gi_schedule.specs.Csv.{IsScheduleCsv}
use Rattle.gi_schedule.specs.CutForms.{IsCutCsv, IsCutJson, IsCutText}
use Rattle.gi_schedule.specs.Json.{IsScheduleJson}
use Rattle.gi_schedule.specs.Text.{IsScheduleText}
use Rattle.gi_schedule.specs.declared.wanted.Wanted.{Wanted}
use Rattle.gi_store.specs.Book.{IsLoadCaused, IsLoadFault, IsRead}
use Rattle.gi_commands.specs.Owned.{FactsReading as Reading}
use Rattle.gi_store.specs.declared.store_fault.StoreFault.TheVariants as store
use Rattle.sqlite.specs.State.{State}
use Rattle.gi_commands.specs.declared.fault.Fault.{Fault}
use Rattle.gi_commands.specs.declared.fault.Fault.TheVariants as fault
use Rattle.gi_commands.specs.declared.desk_report.DeskReport.{DeskReport}
use Rattle.gi_commands.specs.declared.desk_report.DeskReport.TheVariants.{Listed, Explanation, Page}
use Rattle.gi_command_line.specs.declared.request.Format.TheVariants.{Text, Csv, Json}
use Rattle.gi_command_line.specs.declared.request.LineFormat.{LineFormat}
use Rattle.gi_command_line.specs.declared.request.LineFormat.TheVariants as line
use Rattle.gi_command_line.specs.declared.request.ReportKind.{ReportKind}
use Rattle.gi_command_line.specs.declared.request.ReportKind.TheVariants.{Open, Confirmed, Refused, Schedule, Cut, Changes}

-- a list of a side's desk, or of its refused submissions: in columns, as CSV, and as JSON lines
abbrev pub IsTextReport : ReportKind → Wanted → Side → DeskState → List (Option (List ℕ)) → List ℕ → Type 0
IsTextReport Open wanted side s submissions text = IsOpenReport side s text
IsTextReport Confirmed wanted side s submissions text = IsConfirmedReport side s text
IsTextReport Refused wanted side s submissions text = text ≡ refused_lines (refused_counts submissions)
IsTextReport Schedule wanted side s submissions text = IsScheduleText side s wanted text
IsTextReport Cut wanted side s submissions text = IsCutText side s wanted text
IsTextReport Changes wanted side s submissions text = IsChangeText side s wanted text

abbrev pub IsCsvReport : ReportKind → Wanted → Side → DeskState → List (Option (List ℕ)) → List ℕ → Type 0
IsCsvReport Open wanted side s submissions text = IsOpenCsv side s text
IsCsvReport Confirmed wanted side s submissions text = IsConfirmedCsv side s text
IsCsvReport Refused wanted side s submissions text = text ≡ refused_text (refused_counts submissions)
IsCsvReport Schedule wanted side s submissions text = IsScheduleCsv side s wanted text
IsCsvReport Cut wanted side s submissions text = IsCutCsv side s wanted text
IsCsvReport Changes wanted side s submissions text = IsChangeCsv side s wanted text

abbrev pub IsJsonReport : ReportKind → Wanted → Side → DeskState → List (Option (List ℕ)) → List ℕ → Type 0
IsJsonReport Open wanted side s submissions text = IsOpenJson side s text
IsJsonReport Confirmed wanted side s submissions text = IsConfirmedJson side s text
IsJsonReport Refused wanted side s submissions text = text ≡ json_lines count_data (refused_counts submissions)
IsJsonReport Schedule wanted side s submissions text = IsScheduleJson side s wanted text
IsJsonReport Cut wanted side s submissions text = IsCutJson side s wanted text
IsJsonReport Changes wanted side s submissions text = IsChangeJson side s wanted text

-- what a quantity comes from: in lines, and as JSON lines
abbrev pub IsExplanation : LineFormat → Side → DeskState → Question → List ℕ → Type 0
IsExplanation line.Text side s question text = text ≡ explanation side s question
IsExplanation line.Json side s question text = text ≡ object_lines (explanation_objects side s question)

-- the report of a side's desk: such a list, what a quantity comes from, or the page of a gas day
abbrev pub IsReport : DeskReport → Side → DeskState → List (Option (List ℕ)) → List ℕ → Type 0
IsReport (Listed kind Text wanted) side s submissions text = IsTextReport kind wanted side s submissions text
IsReport (Listed kind Csv wanted) side s submissions text = IsCsvReport kind wanted side s submissions text
IsReport (Listed kind Json wanted) side s submissions text = IsJsonReport kind wanted side s submissions text
IsReport (Explanation question format) side s submissions text = IsExplanation format side s question text
IsReport (Page asked) side s submissions text = IsPage side s asked.day text

-- the desk of these facts, all saved
abbrev pub desk_of : List ℕ → List Fact → DeskState
desk_of point facts = record { point = point; facts = facts; saved = length facts; halted = false; kept = [] }

-- The report of a book's facts, which make a desk. Refusals are no facts.
pub record IsBookReport (kind : DeskReport) (side : Side) (point : List ℕ) (facts : List Fact) (text : List ℕ) : Type 0 where
  pub legal : bad_fact side point facts ≡ None
  pub reported : IsReport kind side (desk_of point facts) [] text

-- the report of the facts that a book gives, which make a desk of that side and point
abbrev pub HasBookReport : Reading → DeskReport → Side → List ℕ → List ℕ → Type 0
HasBookReport gives kind side point text = (facts : List Fact) × gives (Ok facts) × IsBookReport kind side point facts text

-- why facts have no report: they make no desk, or memory ran out
abbrev pub IsFactsFault : Side → List ℕ → List Fact → Fault → Type 0
IsFactsFault side point facts (fault.BadFact n) = bad_fact side point facts ≡ Some n
IsFactsFault side point facts fault.OutOfMemory = Unit {0}
IsFactsFault side point facts _ = ⊥

-- why a book has no report: it gives this fault, want of memory among them; or it has facts, which make no desk, or memory ran out then
abbrev pub IsBookFault : Reading → Side → List ℕ → Fault → Type 0
IsBookFault gives side point (fault.BadFact n) = (facts : List Fact) × gives (Ok facts) × (bad_fact side point facts ≡ Some n)
IsBookFault gives side point (fault.Store store.OutOfMemory) = ⊥
IsBookFault gives side point (fault.Store why) = gives (Err why)
IsBookFault gives side point fault.OutOfMemory = gives (Err store.OutOfMemory) ⊎ ((facts : List Fact) × gives (Ok facts))
IsBookFault gives side point _ = ⊥

-- the same of a database, before and after: its rows' facts make no desk, or it was not to be loaded
abbrev pub IsRowsFault : Side → List ℕ → State → State → Fault → Type 0
IsRowsFault side point old new (fault.BadFact n) = (facts : List Fact) × IsRead new facts × (bad_fact side point facts ≡ Some n)
IsRowsFault side point old new (fault.Store store.OutOfMemory) = ⊥
IsRowsFault side point old new (fault.Store why) = IsLoadFault old why × IsLoadCaused old new why
IsRowsFault side point old new fault.OutOfMemory = Unit {0}
IsRowsFault side point old new _ = ⊥

-- or its point is no code
abbrev pub IsNamedFault : Reading → Side → List ℕ → Fault → Type 0
IsNamedFault gives side point (fault.Code why) = ¬ (IsCode point)
IsNamedFault gives side point why = IsBookFault gives side point why

-- a writer fails only where there is a report; in the words of a command memory may run out before
abbrev pub IsFirstBookFault : Reading → DeskReport → Side → List ℕ → Fault → Type 0
IsFirstBookFault gives kind side point fault.Write = (text : List ℕ) × HasBookReport gives kind side point text
IsFirstBookFault gives kind side point fault.OutOfMemory = Unit {0}
IsFirstBookFault gives kind side point why = IsNamedFault gives side point why

-- the report is what the output has gained
abbrev pub ReportsBook : Reading → DeskReport → Side → List ℕ → Option (List ℕ) → Option (List ℕ) → Type 0
ReportsBook gives kind side point old new = (text : List ℕ) × HasBookReport gives kind side point text × Appends old new text

-- The answers to queries, of a desk as it stands between two stretches, and the last line of a run.
use Rattle.std.specs.Prelude.{◌≡◌, ◌⊎◌, ◌≤◌, ◌<◌, ℕ, ℤ, zero, suc, ◌-◌, ◌==◌, List, [], ◌∷◌, ◌++◌, codes, filter, length, map, nat_le, take, if◌then◌else◌, Option, None, Some}
use Rattle.std.specs.Fmt.{decimal}
use Rattle.std.specs.Io.KnownBytes.{Appends, Keeps}
use Rattle.json.specs.Print.{print}
use Rattle.json.specs.Token.{Token}
use Rattle.gi_facts.specs.Writing.{fact_text}
use Rattle.gi_facts.specs.declared.fact.Fact.{Fact}
use Rattle.gi_pairs.specs.declared.cycle_id.CycleId.{CycleId}
use Rattle.gi_pairs.specs.declared.side.Side.{Side}
use Rattle.gi_desk.specs.Machine.{DeskState, saved_out}
use Rattle.gi_desk.specs.Queries.{fact_at}
use Rattle.gi_explanations.specs.Explanation.{explanation}
use Rattle.gi_exports.specs.Json.{IsConfirmedJson, IsOpenJson}
use Rattle.gi_reports.specs.Counts.{is_confirmed}
use Rattle.gi_reports.specs.Cycles.{AreClosedCycles}
use Rattle.gi_text.specs.Lines.{line_feed}
use Rattle.gi_live.specs.Answers.{refused_text}
use Rattle.gi_live.specs.Coming.{most_line}
use Rattle.gi_live.specs.Lines.{IsEnded}
use Rattle.gi_live.specs.Queries.{AsksQuery, kind_text}
use Rattle.gi_live.specs.Telling.{packets_text}
use Rattle.gi_live.specs.declared.live_fault.LiveFault.{LiveFault}
use Rattle.gi_live.specs.declared.live_fault.LiveFault.TheVariants as faults
use Rattle.gi_live.specs.declared.query.Query.{Query}
use Rattle.gi_live.specs.declared.query.Query.TheVariants as queries
use Rattle.gi_live.specs.declared.query.Report.{Report}
use Rattle.gi_live.specs.declared.query.Report.TheVariants as reports
use Rattle.gi_live.specs.declared.query.ReportQuery.{ReportQuery}
use Rattle.gi_changes.specs.Forms.{IsChangeJson}
use Rattle.gi_schedule.specs.CutForms.{IsCutJson}
use Rattle.gi_schedule.specs.Json.{IsScheduleJson}
use Rattle.gi_schedule.specs.declared.wanted.Wanted.{Wanted}

-- ---- what facts let out

-- what fact number n let out, where it is one of those from a number on
abbrev pub outgoing_at : Side → DeskState → ℕ → ℕ → List ℕ
outgoing_at side desk from n = if nat_le from n then packets_text (Some n) (saved_out side desk n) else []

-- the same of the first so many facts
abbrev pub outgoing_of : Side → DeskState → ℕ → ℕ → List ℕ
outgoing_of side desk from zero = []
outgoing_of side desk from (suc before) = outgoing_of side desk from before ++ outgoing_at side desk from (suc before)

-- `{"answer":"outgoing","facts":9,"line":8}`: how many facts are saved; and the packets of those from a number on
abbrev pub outgoing_text : Side → DeskState → ℕ → ℕ → List ℕ
outgoing_text side desk line from =
    (codes "{\"answer\":\"outgoing\",\"facts\":" ++ (decimal desk.saved ++ (codes ",\"line\":" ++ (decimal line ++ codes "}\n"))))
    ++ outgoing_of side desk from desk.saved

-- ---- facts

-- `{"fact":1,"record":{..}}`: the fact as a book stores it
abbrev pub fact_line : ℕ → Option Fact → List ℕ
fact_line n None = []
fact_line n (Some fact) = (codes "{\"fact\":" ++ (decimal n ++ codes ",\"record\":")) ++ (fact_text fact ++ codes "}\n")

abbrev pub fact_lines : List Fact → ℕ → List ℕ
fact_lines facts zero = []
fact_lines facts (suc before) = fact_lines facts before ++ fact_line (suc before) (fact_at facts (suc before))

-- `{"answer":"facts","facts":9,"line":9}`, and each fact
abbrev pub facts_text : DeskState → ℕ → List ℕ
facts_text desk line =
    (codes "{\"answer\":\"facts\",\"facts\":" ++ (decimal (length desk.facts) ++ (codes ",\"line\":" ++ (decimal line ++ codes "}\n"))))
    ++ fact_lines desk.facts (length desk.facts)

-- ---- reports

abbrev pub comma_for : ℕ → ℕ
comma_for byte = if byte == line_feed then 44 else byte

-- lines as the elements of an array
abbrev pub rows_text : List ℕ → List ℕ
rows_text lines = map comma_for (take (length lines - 1) lines)

-- the lines of a report as JSON
abbrev pub IsRows : Side → DeskState → Report → Wanted → List ℕ → Type 0
IsRows side desk reports.Open wanted lines = IsOpenJson side desk lines
IsRows side desk reports.Confirmed wanted lines = IsConfirmedJson side desk lines
IsRows side desk reports.Schedule wanted lines = IsScheduleJson side desk wanted lines
IsRows side desk reports.Cut wanted lines = IsCutJson side desk wanted lines
IsRows side desk reports.Changes wanted lines = IsChangeJson side desk wanted lines

abbrev pub report_start : ℕ → List ℕ → List ℕ
report_start line name =
    codes "{\"answer\":\"report\",\"kind\":\"" ++ (name ++ (codes "\",\"line\":" ++ (decimal line ++ codes ",\"rows\":[")))

-- `{"answer":"report","kind":"open","line":10,"rows":[{..},{..}]}`
abbrev pub report_text : ℕ → Report → List ℕ → List ℕ
report_text line kind lines = report_start line (kind_text kind) ++ (rows_text lines ++ codes "]}\n")

-- ---- explanations

-- `{"answer":"explained","line":11,"text":".."}`
abbrev pub explained_text : ℕ → List ℕ → List ℕ
explained_text line text =
    (codes "{\"answer\":\"explained\",\"line\":" ++ (decimal line ++ codes ",\"text\":")) ++ (print (Token.string text ∷ []) ++ codes "}\n")

-- ---- any of them

-- What is told of a desk to a query on the line of this number. Of cycles that are due nothing is told, but they are closed.
abbrev pub Tells : Side → DeskState → ℕ → Query → List ℕ → Type 0
Tells side desk line (queries.Outgoing from) text = text ≡ outgoing_text side desk line from
Tells side desk line queries.Facts text = text ≡ facts_text desk line
Tells side desk line (queries.Report asked) text = (lines : List ℕ) × IsRows side desk asked.kind asked.wanted lines × (text ≡ report_text line asked.kind lines)
Tells side desk line (queries.Explain question) text = text ≡ explained_text line (explanation side desk question)
Tells side desk line (queries.Due moment) text = ⊥

-- a line that is ended asks it
abbrev pub AsksGiven : List ℕ → Query → Type 0
AsksGiven given query = (line : List ℕ) × IsEnded given line × AsksQuery line query

-- a line that is not too long asks that the cycles be closed which are due at the moment
pub record AsksDue (given : List ℕ) (moment : ℤ) : Type 0 where
  pub within : length given ≤ most_line
  pub asks : AsksGiven given (queries.Due moment)

-- a line that is not too long is the query that it asks
pub record AnswersQuery (side : Side) (desk : DeskState) (number : ℕ) (given text : List ℕ) : Type 0 where
  pub within : length given ≤ most_line
  pub query : Query
  pub asks : AsksGiven given query
  pub tells : Tells side desk number query text

-- one that asks none, or is cut off before its line feed, is unreadable
pub record RefusesQuery (number : ℕ) (given text : List ℕ) : Type 0 where
  pub within : length given ≤ most_line
  pub none : (query : Query) → ¬ AsksGiven given query
  pub told : text ≡ refused_text number (codes "Unreadable") None

abbrev pub AnswersLine : Side → DeskState → ℕ → List ℕ → List ℕ → Type 0
AnswersLine side desk number given text =
    ((most_line < length given) × (text ≡ refused_text number (codes "TooLarge") None))
    ⊎ (AnswersQuery side desk number given text ⊎ RefusesQuery number given text)

abbrev pub WritesAnswer : Side → DeskState → ℕ → List ℕ → Option (List ℕ) → Option (List ℕ) → Type 0
WritesAnswer side desk number given before after = (text : List ℕ) × AnswersLine side desk number given text × Appends before after text

-- Where memory ran out, nothing is written. What a writer holds that failed is not said.
abbrev pub LeavesAnswer : Option (List ℕ) → Option (List ℕ) → LiveFault → Type 0
LeavesAnswer before after faults.OutOfMemory = Keeps before after
LeavesAnswer before after faults.Write = Unit {0}
LeavesAnswer before after _ = ⊥

-- ---- the end

-- `{"answer":"ended","confirmed":1,"facts":9,"saved":9}`
abbrev pub ending_text : ℕ → ℕ → ℕ → List ℕ
ending_text confirmed facts saved =
    codes "{\"answer\":\"ended\",\"confirmed\":" ++ (decimal confirmed ++ (codes ",\"facts\":" ++ (decimal facts ++ (codes ",\"saved\":" ++ (decimal saved ++ codes "}\n")))))

-- how many of the closed cycles are confirmed, how many facts there are, and how many are saved
abbrev pub IsEnding : Side → DeskState → List ℕ → Type 0
IsEnding side desk text =
    (ids : List CycleId) × AreClosedCycles desk.facts ids × (text ≡ ending_text (length (filter (is_confirmed side desk) ids)) (length desk.facts) desk.saved)

abbrev pub WritesEnding : Side → DeskState → Option (List ℕ) → Option (List ℕ) → Type 0
WritesEnding side desk before after = (text : List ℕ) × IsEnding side desk text × Appends before after text

-- What a command does, and its faults: what the definition of each says.
use Rattle.std.specs.Prelude.{◌≡◌, ◌⊎◌, ℕ, Bool, List, Option, None, Some}
use Rattle.std.specs.Option.{IfSome}
use Rattle.std.specs.Io.KnownBytes.{Keeps}
use Rattle.jiff_core.specs.declared.civil.date.Date.{Date}
use Rattle.gi_pairs.specs.Code.{IsCode}
use Rattle.gi_pairs.specs.declared.side.Side.{Side}
use Rattle.gi_pairs.specs.declared.side.Side.TheVariants.{I, M}
use Rattle.gi_command_line.specs.Asked.{Asked, about_book, audit, explain, hours, match_tables, mistaken, page, report, simulate}
use Rattle.gi_commands.specs.Auditing.{Audits, IsFirstAuditFault, LeavesAudit}
use Rattle.gi_commands.specs.Explaining.{Asks, IsQuestionFault, NamesNoCodes}
use Rattle.gi_commands.specs.Fault.{OfTables}
use Rattle.gi_commands.specs.Contents.{IsFirstContentsFault, LeavesContents, TellsBook}
use Rattle.gi_commands.specs.Leaving.{LeavesNothing}
use Rattle.gi_commands.specs.Narrowing.{HasNoPortfolio, IsNarrowingFault, Narrows}
use Rattle.gi_commands.specs.Owned.{of_owner}
use Rattle.gi_commands.specs.Paging.{IsPageFault, NamesPage}
use Rattle.gi_commands.specs.Reporting.{IsFirstBookFault, ReportsBook}
use Rattle.gi_commands.specs.Simulating.{CutsShort, HasReport, HasScript, IsFirstScriptFault, Reports, Simulates}
use Rattle.gi_explanations.specs.declared.question.Question.{Question}
use Rattle.gi_commands.specs.declared.desk_report.DeskReport.{DeskReport}
use Rattle.gi_commands.specs.declared.desk_report.DeskReport.TheVariants.{Explanation, Listed, Page}
use Rattle.gi_table_commands.specs.Hours.{IsFirstHoursFault, TellsHours}
use Rattle.gi_table_commands.specs.Match.{Answers, IsFirstFault}
use Rattle.gi_schedule.specs.declared.wanted.Wanted.{Wanted}
use Rattle.gi_store.specs.Source.{Source}
use Rattle.gi_commands.specs.declared.fault.Fault.{Fault}
use Rattle.gi_commands.specs.declared.fault.Fault.TheVariants as fault

-- `books` says what may come of reading a book, by its file's name.

-- ---- what is told of a side's desk: after a script, or in the book of that file and point

abbrev pub TellsDesk : Source → DeskReport → Side → Option (List ℕ × List ℕ) → Option (List ℕ) → Option (List ℕ) → Option (List ℕ) → Type 0
TellsDesk books kind side None remaining old new = IfSome remaining (λ input. Reports kind side input old new)
TellsDesk books kind side (Some book) remaining old new = ReportsBook (of_owner (books book.0) side book.1) kind side book.1 old new

abbrev pub IsDeskFault : Source → DeskReport → Side → Option (List ℕ × List ℕ) → Option (List ℕ) → Fault → Type 0
IsDeskFault books kind side None remaining why = IfSome remaining (λ input. IsFirstScriptFault (HasReport kind side) input why)
IsDeskFault books kind side (Some book) remaining why = IsFirstBookFault (of_owner (books book.0) side book.1) kind side book.1 why

-- the input is not read where there is a book
abbrev pub ReadsUnlessBook : Option (List ℕ × List ℕ) → Option (List ℕ) → Option (List ℕ) → Type 0
ReadsUnlessBook None old new = Unit {0}
ReadsUnlessBook (Some book) old new = Keeps old new

-- the book's point is no code
abbrev pub HasNoPoint : Option (List ℕ × List ℕ) → Type 0
HasNoPoint None = ⊥
HasNoPoint (Some book) = ¬ (IsCode book.1)

-- ---- the commands

-- what is asked for is what the output gains; of what the reader has left, where it tells that
abbrev pub Does : Source → Asked → Option (List ℕ) → Option (List ℕ) → Option (List ℕ) → Type 0
Does books match_tables remaining old new = IfSome remaining (λ input. Answers input old new)
Does books (hours day) remaining old new = TellsHours day old new
Does books (simulate trace strict) remaining old new = IfSome remaining (λ input. Simulates trace input old new)
Does books (report kind format side words book) remaining old new =
    (wanted : Wanted) × Narrows words wanted × TellsDesk books (Listed kind format wanted) side book remaining old new
Does books (explain format side words book) remaining old new =
    (question : Question) × Asks words question × TellsDesk books (Explanation question format) side book remaining old new
Does books (page side word book) remaining old new = (day : Date) × NamesPage word day × TellsDesk books (Page (record { day = day })) side book remaining old new
Does books (audit format initiating matching point) remaining old new = Audits format (of_owner (books initiating) I point) (of_owner (books matching) M point) point old new
Does books (about_book file expected) remaining old new = TellsBook (books file) expected old new
Does books mistaken remaining old new = ⊥

-- the first fault
abbrev pub IsFaultOf : Source → Asked → Option (List ℕ) → Fault → Type 0
IsFaultOf books match_tables remaining why = IfSome remaining (λ input. OfTables (IsFirstFault input) why)
IsFaultOf books (hours day) remaining why = OfTables (IsFirstHoursFault day) why
IsFaultOf books (simulate trace strict) remaining why = IfSome remaining (λ input. IsFirstScriptFault HasScript input why)
IsFaultOf books (report kind format side words book) remaining why =
    (why ≡ fault.OutOfMemory) ⊎ IsNarrowingFault words why ⊎ ((wanted : Wanted) × Narrows words wanted × IsDeskFault books (Listed kind format wanted) side book remaining why)
IsFaultOf books (explain format side words book) remaining why =
    (why ≡ fault.OutOfMemory) ⊎ IsQuestionFault words why
    ⊎ ((question : Question) × Asks words question × IsDeskFault books (Explanation question format) side book remaining why)
IsFaultOf books (page side word book) remaining why =
    (why ≡ fault.OutOfMemory) ⊎ IsPageFault word why ⊎ ((day : Date) × NamesPage word day × IsDeskFault books (Page (record { day = day })) side book remaining why)
IsFaultOf books (audit format initiating matching point) remaining why = IsFirstAuditFault format (of_owner (books initiating) I point) (of_owner (books matching) M point) point why
IsFaultOf books (about_book file expected) remaining why = IsFirstContentsFault (books file) expected why
IsFaultOf books mistaken remaining why = (why ≡ fault.CommandLine) ⊎ (why ≡ fault.OutOfMemory)

-- After a fault nothing is written, but where a writer failed; of a script, where memory ran out, the lines of the first
-- steps may be.
abbrev pub LeavesFront : Bool → Option (List ℕ) → Option (List ℕ) → Option (List ℕ) → Fault → Type 0
LeavesFront trace remaining old new fault.Write = Unit {0}
LeavesFront trace remaining old new fault.OutOfMemory = IfSome remaining (λ input. CutsShort trace input old new)
LeavesFront trace remaining old new _ = Keeps old new

abbrev pub Leaves : Source → Asked → Option (List ℕ) → Option (List ℕ) → Option (List ℕ) → Fault → Type 0
Leaves books match_tables remaining old new why = LeavesNothing old new why
Leaves books (hours day) remaining old new why = LeavesNothing old new why
Leaves books (simulate trace strict) remaining old new why = LeavesFront trace remaining old new why
Leaves books (report kind format side words book) remaining old new why = LeavesNothing old new why
Leaves books (explain format side words book) remaining old new why = LeavesNothing old new why
Leaves books (page side word book) remaining old new why = LeavesNothing old new why
Leaves books (audit format initiating matching point) remaining old new why = LeavesAudit format (of_owner (books initiating) I point) (of_owner (books matching) M point) point old new why
Leaves books (about_book file expected) remaining old new why = LeavesContents (books file) expected old new why
Leaves books mistaken remaining old new why = LeavesNothing old new why

-- `hours`, what is told of books, and wrong words read nothing
abbrev pub MayRead : Asked → Option (List ℕ) → Option (List ℕ) → Type 0
MayRead match_tables old new = Unit {0}
MayRead (hours day) old new = Keeps old new
MayRead (simulate trace strict) old new = Unit {0}
MayRead (report kind format side words book) old new = ReadsUnlessBook book old new
MayRead (explain format side words book) old new = ReadsUnlessBook book old new
MayRead (page side word book) old new = ReadsUnlessBook book old new
MayRead (audit format initiating matching point) old new = Keeps old new
MayRead (about_book file expected) old new = Keeps old new
MayRead mistaken old new = Keeps old new

-- a report or an audit of books whose point is no code, a report of a portfolio that is none, a quantity with such a one, and a page of a gas day with such a book
abbrev pub HasNoCode : Asked → Type 0
HasNoCode match_tables = ⊥
HasNoCode (hours day) = ⊥
HasNoCode (simulate trace strict) = ⊥
HasNoCode (report kind format side words book) = HasNoPortfolio words.portfolio ⊎ ((wanted : Wanted) × Narrows words wanted × HasNoPoint book)
HasNoCode (explain format side words book) = NamesNoCodes words ⊎ ((question : Question) × Asks words question × HasNoPoint book)
HasNoCode (page side word book) = (day : Date) × NamesPage word day × HasNoPoint book
HasNoCode (audit format initiating matching point) = ¬ (IsCode point)
HasNoCode (about_book file expected) = ⊥
HasNoCode mistaken = ⊥

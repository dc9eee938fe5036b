-- What holds of all words.
use Rattle.std.specs.Prelude.{◌≡◌, ◌≤◌, ℕ, Bool, List, [], ◌∷◌, ◌++◌, Option, None, Some, true, false, codes, decimal}
use Rattle.clap.specs.declared.error.kind.ErrorKind.TheVariants.{MissingRequiredArgument}
use Rattle.gi_pairs.specs.Direction.{direction_text}
use Rattle.gi_pairs.specs.Side.{side_named, side_text}
use Rattle.gi_pairs.specs.declared.direction.Direction.{Direction}
use Rattle.gi_pairs.specs.declared.side.Side.{Side}
use Rattle.gi_command_line.specs.Asked.{NarrowingWords, QuantityWords, Wanted, about_book, at_once, audit, explain, hours, match_tables, mistaken, office, page, report, serve, simulate}
use Rattle.gi_command_line.specs.CommandLine.{MeansHours, MeansMatch, asked, objections}
use Rattle.gi_command_line.specs.Expected.{expected_named, is_digest, most_facts}
use Rattle.gi_command_line.specs.Numbers.{cycle_named, hour_named}
use Rattle.gi_command_line.specs.ReportWords.{can_be_narrowed, format_text, kind_text, line_format_named, line_format_text}
use Rattle.gi_command_line.specs.Sessions.{default_sessions}
use Rattle.gi_command_line.specs.Wait.{IsWait, no_wait, wait_named}
use Rattle.gi_command_line.specs.declared.request.Format.{Format}
use Rattle.gi_command_line.specs.declared.request.Format.TheVariants.{Text}
use Rattle.gi_command_line.specs.declared.request.LineFormat.{LineFormat}
use Rattle.gi_command_line.specs.declared.request.LineFormat.TheVariants as line
use Rattle.gi_command_line.specs.declared.request.ReportKind.{ReportKind}

-- to the program's name, alone or with the word `match`, nothing is objected, and it asks for `match`
abbrev pub MatchIsTaken : Type 0
MatchIsTaken = (words : List (List ℕ)) → MeansMatch words → (objections words ≡ []) × (asked words ≡ at_once match_tables)

-- to the program's name with the word `hours` and a day, nothing is objected, and it asks for the hours of that day;
-- without a day, it is the day that is missing
abbrev pub HoursIsTaken : Type 0
HoursIsTaken = (words : List (List ℕ)) (day : List ℕ) → MeansHours words day → (objections words ≡ []) × (asked words ≡ at_once (hours day))

abbrev pub HoursNeedADay : Type 0
HoursNeedADay = (program : List ℕ) → objections (program ∷ codes "hours" ∷ []) ≡ MissingRequiredArgument ∷ []

-- to the program's name with the word `simulate` nothing is objected, and it asks for no trace, and not strictly; with `--trace` behind it,
-- for one; with `--strict` behind it, strictly
abbrev pub SimulateIsTaken : Type 0
SimulateIsTaken =
    (program : List ℕ) → (objections (program ∷ codes "simulate" ∷ []) ≡ []) × (asked (program ∷ codes "simulate" ∷ []) ≡ at_once (simulate false false))

abbrev pub TraceIsTaken : Type 0
TraceIsTaken =
    (program : List ℕ)
    → (objections (program ∷ codes "simulate" ∷ codes "--trace" ∷ []) ≡ [])
    × (asked (program ∷ codes "simulate" ∷ codes "--trace" ∷ []) ≡ at_once (simulate true false))

abbrev pub StrictIsTaken : Type 0
StrictIsTaken =
    (program : List ℕ)
    → (objections (program ∷ codes "simulate" ∷ codes "--strict" ∷ []) ≡ [])
    × (asked (program ∷ codes "simulate" ∷ codes "--strict" ∷ []) ≡ at_once (simulate false true))

-- ---- words with values of any text

-- nothing is objected to the words, and they ask for this
abbrev pub AreTaken : List (List ℕ) → Wanted → Type 0
AreTaken words wanted = (objections words ≡ []) × (asked words ≡ wanted)

-- an option with its value, in one word: `--point=BORDER-1`
abbrev pub with_value : List ℕ → List ℕ → List ℕ
with_value name value = codes "--" ++ (name ++ (codes "=" ++ value))

-- the options of a book
abbrev pub book_words : List ℕ → List ℕ → List (List ℕ)
book_words file point = with_value (codes "book") file ∷ with_value (codes "point") point ∷ []

-- the same, each in two words, where the file is of a name that begins with `day`, and the point with `BORDER`
abbrev pub book_in_words : List ℕ → List ℕ → List (List ℕ)
book_in_words file point = codes "--book" ∷ (codes "day" ++ file) ∷ codes "--point" ∷ (codes "BORDER" ++ point) ∷ []

-- ---- `report`

abbrev pub report_words : List ℕ → ReportKind → Side → List (List ℕ) → List (List ℕ)
report_words program kind side more = program ∷ codes "report" ∷ kind_text kind ∷ side_text side ∷ more

-- what names no gas day and no portfolio
abbrev pub not_narrowed : NarrowingWords
not_narrowed = record { day = None; portfolio = None }

-- a kind and a side ask for that report of a script, as text; with a format, in that; with a book, of the book
abbrev pub ReportIsTaken : Type 0
ReportIsTaken = (program : List ℕ) (kind : ReportKind) (side : Side) → AreTaken (report_words program kind side []) (at_once (report kind Text side not_narrowed None))

abbrev pub FormatIsTaken : Type 0
FormatIsTaken =
    (program : List ℕ) (kind : ReportKind) (side : Side) (format : Format)
    → AreTaken (report_words program kind side (codes "--format" ∷ format_text format ∷ [])) (at_once (report kind format side not_narrowed None))

abbrev pub BookIsTaken : Type 0
BookIsTaken =
    (program file point : List ℕ) (kind : ReportKind) (side : Side)
    → AreTaken (report_words program kind side (book_words file point)) (at_once (report kind Text side not_narrowed (Some (file, point))))

abbrev pub BookInWordsIsTaken : Type 0
BookInWordsIsTaken =
    (program file point : List ℕ) (kind : ReportKind) (side : Side)
    → AreTaken (report_words program kind side (book_in_words file point)) (at_once (report kind Text side not_narrowed (Some (codes "day" ++ file, codes "BORDER" ++ point))))

-- a gas day and a portfolio narrow a schedule, cuts and changes; for another report they are wrong words
abbrev pub narrowing_options : List ℕ → List ℕ → List (List ℕ)
narrowing_options day portfolio = with_value (codes "day") day ∷ with_value (codes "portfolio") portfolio ∷ []

abbrev pub NarrowingIsTaken : Type 0
NarrowingIsTaken =
    (program day portfolio : List ℕ) (kind : ReportKind) (side : Side) → can_be_narrowed kind ≡ true
    → AreTaken (report_words program kind side (narrowing_options day portfolio))
    (at_once (report kind Text side (record { day = Some day; portfolio = Some portfolio }) None))

abbrev pub NarrowingIsWrong : Type 0
NarrowingIsWrong =
    (program day portfolio : List ℕ) (kind : ReportKind) (side : Side) → can_be_narrowed kind ≡ false
    → AreTaken (report_words program kind side (narrowing_options day portfolio)) (at_once mistaken)

-- without a side, it is the side that is missing; a book without its point is asked for in wrong words
abbrev pub ReportNeedsASide : Type 0
ReportNeedsASide = (program : List ℕ) (kind : ReportKind) → objections (program ∷ codes "report" ∷ kind_text kind ∷ []) ≡ MissingRequiredArgument ∷ []

abbrev pub BookNeedsItsPoint : Type 0
BookNeedsItsPoint =
    (program file : List ℕ) (kind : ReportKind) (side : Side)
    → AreTaken (report_words program kind side (with_value (codes "book") file ∷ [])) (at_once mistaken)

-- ---- `explain`

-- behind `--` no word is an option, whatever it begins with
abbrev pub explain_words : List ℕ → List (List ℕ) → List (List ℕ) → List (List ℕ)
explain_words program options values = program ∷ codes "explain" ∷ (options ++ codes "--" ∷ values)

abbrev pub quantity_texts : Side → Direction → (initiating matching day cycle hour : List ℕ) → List (List ℕ)
quantity_texts side direction initiating matching day cycle hour =
    side_text side ∷ initiating ∷ matching ∷ direction_text direction ∷ day ∷ cycle ∷ hour ∷ []

abbrev pub quantity : Direction → (initiating matching day : List ℕ) → ℕ → ℕ → QuantityWords
quantity direction initiating matching day cycle hour =
    record { initiating = initiating; matching = matching; direction = direction; day = day; cycle = cycle; hour = hour }

-- a side, two portfolios, a direction, a day, a cycle and an hour ask for what that quantity comes from after a script; with a
-- book, by that book
abbrev pub ExplainIsTaken : Type 0
ExplainIsTaken =
    (program initiating matching day cycle hour : List ℕ) (side : Side) (direction : Direction) (k h : ℕ)
    → cycle_named cycle ≡ Some k → hour_named hour ≡ Some h
    → AreTaken (explain_words program [] (quantity_texts side direction initiating matching day cycle hour))
    (at_once (explain line.Text side (quantity direction initiating matching day k h) None))

abbrev pub ExplainedBookIsTaken : Type 0
ExplainedBookIsTaken =
    (program file point initiating matching day cycle hour : List ℕ) (side : Side) (direction : Direction) (k h : ℕ)
    → cycle_named cycle ≡ Some k → hour_named hour ≡ Some h
    → AreTaken (explain_words program (book_words file point) (quantity_texts side direction initiating matching day cycle hour))
    (at_once (explain line.Text side (quantity direction initiating matching day k h) (Some (file, point))))

-- with a format, in that; a format that is none is asked for in wrong words
abbrev pub ExplainFormatIsTaken : Type 0
ExplainFormatIsTaken =
    (program initiating matching day cycle hour : List ℕ) (side : Side) (direction : Direction) (k h : ℕ) (format : LineFormat)
    → cycle_named cycle ≡ Some k → hour_named hour ≡ Some h
    → AreTaken (explain_words program (codes "--format" ∷ line_format_text format ∷ []) (quantity_texts side direction initiating matching day cycle hour))
    (at_once (explain format side (quantity direction initiating matching day k h) None))

abbrev pub ExplainFormatIsWrong : Type 0
ExplainFormatIsWrong =
    (program initiating matching day cycle hour format : List ℕ) (side : Side) (direction : Direction) → line_format_named format ≡ None
    → AreTaken (explain_words program (with_value (codes "format") format ∷ []) (quantity_texts side direction initiating matching day cycle hour))
    (at_once mistaken)

-- without `--` too, as `explain I A B IM 2026-01-15 35 24`: portfolios that begin with A and B, and a day that begins with 2
abbrev pub PlainExplainIsTaken : Type 0
PlainExplainIsTaken =
    (program a b day : List ℕ) (side : Side) (direction : Direction)
    → AreTaken (program ∷ codes "explain" ∷ quantity_texts side direction (65 ∷ a) (66 ∷ b) (50 ∷ day) (codes "35") (codes "24"))
    (at_once (explain line.Text side (quantity direction (65 ∷ a) (66 ∷ b) (50 ∷ day) 35 24) None))

-- a cycle, or an hour, that is none is asked for in wrong words; without an hour, it is the hour that is missing
abbrev pub ExplainNeedsACycle : Type 0
ExplainNeedsACycle =
    (program initiating matching day cycle hour : List ℕ) (side : Side) (direction : Direction) → cycle_named cycle ≡ None
    → AreTaken (explain_words program [] (quantity_texts side direction initiating matching day cycle hour)) (at_once mistaken)

abbrev pub ExplainNeedsAnHour : Type 0
ExplainNeedsAnHour =
    (program initiating matching day cycle hour : List ℕ) (side : Side) (direction : Direction) → hour_named hour ≡ None
    → AreTaken (explain_words program [] (quantity_texts side direction initiating matching day cycle hour)) (at_once mistaken)

abbrev pub HourIsMissing : Type 0
HourIsMissing =
    (program initiating matching day cycle : List ℕ) (side : Side) (direction : Direction)
    → objections (explain_words program [] (side_text side ∷ initiating ∷ matching ∷ direction_text direction ∷ day ∷ cycle ∷ [])) ≡ MissingRequiredArgument ∷ []

-- ---- `page`

-- a side and a gas day ask for the page of a script, and with a book for that of the book; behind `--` whatever the day begins with
abbrev pub page_words : List ℕ → List (List ℕ) → Side → List ℕ → List (List ℕ)
page_words program options side day = program ∷ codes "page" ∷ (options ++ codes "--" ∷ side_text side ∷ day ∷ [])

abbrev pub PageIsTaken : Type 0
PageIsTaken = (program day : List ℕ) (side : Side) → AreTaken (page_words program [] side day) (at_once (page side day None))

abbrev pub PageOfABookIsTaken : Type 0
PageOfABookIsTaken =
    (program day file point : List ℕ) (side : Side)
    → AreTaken (page_words program (book_words file point) side day) (at_once (page side day (Some (file, point))))

-- without a day, it is the day that is missing; a book without its point is asked for in wrong words
abbrev pub PageNeedsADay : Type 0
PageNeedsADay = (program : List ℕ) (side : Side) → objections (program ∷ codes "page" ∷ side_text side ∷ []) ≡ MissingRequiredArgument ∷ []

abbrev pub PageNeedsItsPoint : Type 0
PageNeedsItsPoint =
    (program day file : List ℕ) (side : Side)
    → AreTaken (page_words program (with_value (codes "book") file ∷ []) side day) (at_once mistaken)

-- ---- `audit`

abbrev pub audit_words : (program initiating matching point : List ℕ) → List (List ℕ)
audit_words program initiating matching point =
    program ∷ codes "audit" ∷ with_value (codes "initiating") initiating ∷ with_value (codes "matching") matching ∷ with_value (codes "point") point ∷ []

-- both books and the point ask for their audit
abbrev pub AuditIsTaken : Type 0
AuditIsTaken = (program initiating matching point : List ℕ) → AreTaken (audit_words program initiating matching point) (at_once (audit line.Text initiating matching point))

-- each in two words, where both names begin with `day`, and the point with `BORDER`
abbrev pub audit_in_words : (program initiating matching point : List ℕ) → List (List ℕ)
audit_in_words program initiating matching point =
    program ∷ codes "audit" ∷ codes "--initiating" ∷ (codes "day" ++ initiating) ∷ codes "--matching" ∷ (codes "day" ++ matching) ∷ codes "--point"
    ∷ (codes "BORDER" ++ point) ∷ []

abbrev pub AuditInWordsIsTaken : Type 0
AuditInWordsIsTaken =
    (program initiating matching point : List ℕ)
    → AreTaken (audit_in_words program initiating matching point) (at_once (audit line.Text (codes "day" ++ initiating) (codes "day" ++ matching) (codes "BORDER" ++ point)))

-- with a format, in that; a format that is none is asked for in wrong words
abbrev pub audit_words_in : (program initiating matching point : List ℕ) → List (List ℕ) → List (List ℕ)
audit_words_in program initiating matching point format =
    program ∷ codes "audit" ∷ with_value (codes "initiating") initiating ∷ with_value (codes "matching") matching ∷ with_value (codes "point") point ∷ format

abbrev pub AuditFormatIsTaken : Type 0
AuditFormatIsTaken =
    (program initiating matching point : List ℕ) (format : LineFormat)
    → AreTaken (audit_words_in program initiating matching point (codes "--format" ∷ line_format_text format ∷ []))
    (at_once (audit format initiating matching point))

abbrev pub AuditFormatIsWrong : Type 0
AuditFormatIsWrong =
    (program initiating matching point format : List ℕ) → line_format_named format ≡ None
    → AreTaken (audit_words_in program initiating matching point (with_value (codes "format") format ∷ [])) (at_once mistaken)

-- without the matching side's book, that is missing
abbrev pub AuditNeedsBothBooks : Type 0
AuditNeedsBothBooks =
    (program initiating point : List ℕ)
    → objections (program ∷ codes "audit" ∷ with_value (codes "initiating") initiating ∷ with_value (codes "point") point ∷ []) ≡ MissingRequiredArgument ∷ []

-- ---- `book`

-- behind `--` no word is an option
abbrev pub about_book_words : List ℕ → List (List ℕ) → List ℕ → List (List ℕ)
about_book_words program options file = program ∷ codes "book" ∷ (options ++ codes "--" ∷ file ∷ [])

-- a file asks for what the book in it is; with a number of facts and a digest, these are expected
abbrev pub AboutBookIsTaken : Type 0
AboutBookIsTaken = (program file : List ℕ) → AreTaken (about_book_words program [] file) (at_once (about_book file None))

abbrev pub ExpectedIsTaken : Type 0
ExpectedIsTaken =
    (program file expected : List ℕ) (facts : ℕ) (digest : List ℕ) → expected_named expected ≡ Some (facts, digest)
    → AreTaken (about_book_words program (with_value (codes "expect") expected ∷ []) file) (at_once (about_book file (Some (facts, digest))))

-- without `--` too, as `book day-I.db`
abbrev pub PlainAboutBookIsTaken : Type 0
PlainAboutBookIsTaken = (program file : List ℕ) → AreTaken (program ∷ codes "book" ∷ (codes "day" ++ file) ∷ []) (at_once (about_book (codes "day" ++ file) None))

-- what names no facts is asked for in wrong words; without a file, it is the file that is missing
abbrev pub ExpectedIsWrong : Type 0
ExpectedIsWrong =
    (program file expected : List ℕ) → expected_named expected ≡ None
    → AreTaken (about_book_words program (with_value (codes "expect") expected ∷ []) file) (at_once mistaken)

abbrev pub AboutBookNeedsAFile : Type 0
AboutBookNeedsAFile = (program : List ℕ) → objections (program ∷ codes "book" ∷ []) ≡ MissingRequiredArgument ∷ []

-- a number's decimal text, a colon and a digest name just these, and no other text does
abbrev pub expected_text : ℕ → List ℕ → List ℕ
expected_text facts digest = decimal facts ++ (58 ∷ digest)

abbrev pub ExpectedIsNamed : Type 0
ExpectedIsNamed =
    (facts : ℕ) (digest : List ℕ) → facts ≤ most_facts → is_digest digest ≡ true → expected_named (expected_text facts digest) ≡ Some (facts, digest)

abbrev pub ExpectedIsItsText : Type 0
ExpectedIsItsText =
    (word digest : List ℕ) (facts : ℕ) → expected_named word ≡ Some (facts, digest)
    → (word ≡ expected_text facts digest) × (facts ≤ most_facts) × (is_digest digest ≡ true)

-- ---- `office`

abbrev pub words_of_office : List ℕ → Side → List (List ℕ) → List (List ℕ)
words_of_office program side more = program ∷ codes "office" ∷ side_text side ∷ more

abbrev pub runs_so : (by_clock strict : Bool) → (side : Side) (file point : List ℕ) → ℕ → Wanted
runs_so by_clock strict side file point wait =
    office (record { side = side; file = file; point = point; wait = wait; by_clock = by_clock; strict = strict })

abbrev pub runs : (side : Side) (file point : List ℕ) → ℕ → Wanted
runs side file point wait = runs_so false false side file point wait

-- a side with its book and its point asks for its office, for no wait; with `--wait`, for these seconds
abbrev pub OfficeIsTaken : Type 0
OfficeIsTaken = (program file point : List ℕ) (side : Side) → AreTaken (words_of_office program side (book_words file point)) (runs side file point no_wait)

abbrev pub OfficeWaitIsTaken : Type 0
OfficeWaitIsTaken =
    (program file point wait : List ℕ) (side : Side) (seconds : ℕ) → wait_named wait ≡ Some seconds
    → AreTaken (words_of_office program side (with_value (codes "wait") wait ∷ book_words file point)) (runs side file point seconds)

-- with `--clock`, by the machine's clock
abbrev pub OfficeClockIsTaken : Type 0
OfficeClockIsTaken =
    (program file point : List ℕ) (side : Side)
    → AreTaken (words_of_office program side (codes "--clock" ∷ book_words file point)) (runs_so true false side file point no_wait)

-- with `--strict`, strictly
abbrev pub OfficeStrictIsTaken : Type 0
OfficeStrictIsTaken =
    (program file point : List ℕ) (side : Side)
    → AreTaken (words_of_office program side (codes "--strict" ∷ book_words file point)) (runs_so false true side file point no_wait)

-- each in two words too, as `office I --book day-I.db --point BORDER-1`, where the file's name begins with `day`, and the point
-- with `BORDER`
abbrev pub OfficeInWordsIsTaken : Type 0
OfficeInWordsIsTaken =
    (program file point : List ℕ) (side : Side)
    → AreTaken (words_of_office program side (book_in_words file point)) (runs side (codes "day" ++ file) (codes "BORDER" ++ point) no_wait)

-- a side that is none, whatever it begins with behind `--`, and seconds that are none, are wrong words
abbrev pub OfficeIsOfNoSide : Type 0
OfficeIsOfNoSide =
    (program file point side : List ℕ) → side_named side ≡ None
    → AreTaken (program ∷ codes "office" ∷ (book_words file point ++ codes "--" ∷ side ∷ [])) (at_once mistaken)

abbrev pub OfficeWaitIsWrong : Type 0
OfficeWaitIsWrong =
    (program file point wait : List ℕ) (side : Side) → wait_named wait ≡ None
    → AreTaken (words_of_office program side (with_value (codes "wait") wait ∷ book_words file point)) (at_once mistaken)

-- without its side, its book or its point, that is missing
abbrev pub OfficeNeedsASide : Type 0
OfficeNeedsASide = (program file point : List ℕ) → objections (program ∷ codes "office" ∷ book_words file point) ≡ MissingRequiredArgument ∷ []

abbrev pub OfficeNeedsItsBook : Type 0
OfficeNeedsItsBook =
    (program point : List ℕ) (side : Side) → objections (words_of_office program side (with_value (codes "point") point ∷ [])) ≡ MissingRequiredArgument ∷ []

abbrev pub OfficeNeedsItsPoint : Type 0
OfficeNeedsItsPoint =
    (program file : List ℕ) (side : Side) → objections (words_of_office program side (with_value (codes "book") file ∷ [])) ≡ MissingRequiredArgument ∷ []

-- ---- `serve`

abbrev pub serve_words : List ℕ → List (List ℕ) → List (List ℕ)
serve_words program options = program ∷ codes "serve" ∷ options

-- how both offices run where no sessions are named
abbrev pub serves_so : Option (List ℕ) → ℕ → (only_old dry_run strict : Bool) → Wanted
serves_so books wait only_old dry_run strict =
    serve (record { sessions = default_sessions; books = books; wait = wait; only_old = only_old; dry_run = dry_run; strict = strict })

abbrev pub serves : Option (List ℕ) → ℕ → Bool → Wanted
serves books wait only_old = serves_so books wait only_old false false

-- `serve` alone asks for two sessions, for books in memory, for no wait, and for no old books, for no dry run, and not strictly
abbrev pub ServeIsTaken : Type 0
ServeIsTaken = (program : List ℕ) → AreTaken (serve_words program []) (serves None no_wait false)

-- with `--wait`, for these seconds, over books in files or in memory; seconds that are none are wrong words
abbrev pub WaitIsTaken : Type 0
WaitIsTaken =
    (program prefix wait : List ℕ) (seconds : ℕ) → wait_named wait ≡ Some seconds
    → AreTaken (serve_words program (with_value (codes "books") prefix ∷ with_value (codes "wait") wait ∷ [])) (serves (Some prefix) seconds false)

abbrev pub WaitIsWrong : Type 0
WaitIsWrong =
    (program prefix wait : List ℕ) → wait_named wait ≡ None
    → AreTaken (serve_words program (with_value (codes "books") prefix ∷ with_value (codes "wait") wait ∷ [])) (at_once mistaken)

-- seconds are named by their decimal text, and by no other
abbrev pub WaitIsNamed : Type 0
WaitIsNamed = (seconds : ℕ) → IsWait seconds → wait_named (decimal seconds) ≡ Some seconds

abbrev pub WaitIsItsText : Type 0
WaitIsItsText = (word : List ℕ) (seconds : ℕ) → wait_named word ≡ Some seconds → (word ≡ decimal seconds) × IsWait seconds

-- with `--old`, for old books alone
abbrev pub OldIsTaken : Type 0
OldIsTaken =
    (program prefix : List ℕ) → AreTaken (serve_words program (with_value (codes "books") prefix ∷ codes "--old" ∷ [])) (serves (Some prefix) no_wait true)

abbrev pub OldInMemoryIsTaken : Type 0
OldInMemoryIsTaken = (program : List ℕ) → AreTaken (serve_words program (codes "--old" ∷ [])) (serves None no_wait true)

-- with `--dry-run`, over copies in memory of the books that are named, of old ones alone too; where none are, these are wrong words
abbrev pub DryRunIsTaken : Type 0
DryRunIsTaken =
    (program prefix : List ℕ)
    → AreTaken (serve_words program (with_value (codes "books") prefix ∷ codes "--dry-run" ∷ [])) (serves_so (Some prefix) no_wait false true false)

abbrev pub OldDryRunIsTaken : Type 0
OldDryRunIsTaken =
    (program prefix : List ℕ)
    → AreTaken (serve_words program (codes "--old" ∷ codes "--dry-run" ∷ with_value (codes "books") prefix ∷ [])) (serves_so (Some prefix) no_wait true true false)

abbrev pub DryRunNeedsBooks : Type 0
DryRunNeedsBooks = (program : List ℕ) → AreTaken (serve_words program (codes "--dry-run" ∷ [])) (at_once mistaken)

-- with `--strict`, strictly
abbrev pub ServeStrictIsTaken : Type 0
ServeStrictIsTaken = (program : List ℕ) → AreTaken (serve_words program (codes "--strict" ∷ [])) (serves_so None no_wait false false true)

-- What the words of a command line mean.
use Rattle.std.specs.Prelude.{◌≡◌, ◌≢◌, ◌⊎◌, ℕ, Bool, List, [], ◌∷◌, Option, None, Some, true, false, if◌then◌else◌, option_map, unwrap_or, is_some, not, ◌&&◌, ◌||◌, codes}
use Rattle.std.specs.Str.{bytes_eq}
use Rattle.clap.specs.Words.{App, IsAmong, Kinds, Row, Rule, fault_of, first_of, new_app, new_rule, subcommand_of, with_rule, with_subcommand}
use Rattle.clap.specs.declared.builder.action.ArgAction.TheVariants.{SetTrue}
use Rattle.clap.specs.declared.error.kind.ErrorKind.{ErrorKind}
use Rattle.clap.specs.declared.error.kind.ErrorKind.TheVariants.{DisplayHelp, DisplayVersion}
use Rattle.gi_pairs.specs.Direction.{direction_named}
use Rattle.gi_pairs.specs.Side.{side_named}
use Rattle.gi_pairs.specs.declared.direction.Direction.{Direction}
use Rattle.gi_pairs.specs.declared.side.Side.{Side}
use Rattle.gi_command_line.specs.Asked.{Asked, NarrowingWords, QuantityWords, Wanted, about_book, at_once, audit, explain, hours, match_tables, mistaken, office, page, report, serve, simulate}
use Rattle.gi_command_line.specs.Expected.{expected_named}
use Rattle.gi_command_line.specs.Numbers.{cycle_named, hour_named}
use Rattle.gi_command_line.specs.ReportWords.{can_be_narrowed, format_named, kind_named, line_format_named}
use Rattle.gi_command_line.specs.Sessions.{default_sessions, sessions_named}
use Rattle.gi_command_line.specs.Wait.{no_wait, wait_named}
use Rattle.gi_command_line.specs.declared.request.Format.{Format}
use Rattle.gi_command_line.specs.declared.request.Format.TheVariants.{Text}
use Rattle.gi_command_line.specs.declared.request.LineFormat.{LineFormat}
use Rattle.gi_command_line.specs.declared.request.LineFormat.TheVariants as line
use Rattle.gi_command_line.specs.declared.request.ReportKind.{ReportKind}

-- ---- the commands and options that the program knows

-- a word that has to be there, an option with a value, one that has to be there, and an option without a value
abbrev pub word : List ℕ → Rule
word name = record (new_rule name) { required = true }

abbrev pub option : List ℕ → Rule
option name = record (new_rule name) { long = Some name; value_names = 1 }

abbrev pub needed : List ℕ → Rule
needed name = record (option name) { required = true }

abbrev pub flag : List ℕ → Rule
flag name = record (new_rule name) { long = Some name; action = Some SetTrue }

abbrev pub the_match : App
the_match = new_app (codes "match")

abbrev pub the_hours : App
the_hours = with_rule (new_app (codes "hours")) (word (codes "DAY"))

abbrev pub the_simulate : App
the_simulate = with_rule (with_rule (new_app (codes "simulate")) (flag (codes "trace"))) (flag (codes "strict"))

-- the pair's portfolios and the direction; the gas day, the cycle and the hour
abbrev pub with_pair : App → App
with_pair app = with_rule (with_rule (with_rule app (word (codes "INITIATING"))) (word (codes "MATCHING"))) (word (codes "DIRECTION"))

abbrev pub with_hour : App → App
with_hour app = with_rule (with_rule (with_rule app (word (codes "DAY"))) (word (codes "CYCLE"))) (word (codes "HOUR"))

abbrev pub with_book : App → App
with_book app = with_rule (with_rule app (option (codes "book"))) (option (codes "point"))

-- the gas day and the portfolio to which a report is narrowed
abbrev pub with_narrowing : App → App
with_narrowing app = with_rule (with_rule app (option (codes "day"))) (option (codes "portfolio"))

abbrev pub the_report : App
the_report =
    with_book (with_narrowing (with_rule (with_rule (with_rule (new_app (codes "report")) (word (codes "KIND"))) (word (codes "SIDE"))) (option (codes "format"))))

abbrev pub the_explain : App
the_explain = with_book (with_rule (with_hour (with_pair (with_rule (new_app (codes "explain")) (word (codes "SIDE"))))) (option (codes "format")))

abbrev pub the_page : App
the_page = with_book (with_rule (with_rule (new_app (codes "page")) (word (codes "SIDE"))) (word (codes "DAY")))

abbrev pub the_audit : App
the_audit =
    let of_books = with_rule (with_rule (new_app (codes "audit")) (needed (codes "initiating"))) (needed (codes "matching")) in
    with_rule (with_rule of_books (needed (codes "point"))) (option (codes "format"))

abbrev pub the_book : App
the_book = with_rule (with_rule (new_app (codes "book")) (word (codes "FILE"))) (option (codes "expect"))

-- the side; its book and the point, which are both needed, whether it goes by the clock, how long is waited for the book, and whether it is strict
abbrev pub the_office : App
the_office =
    let of_side = with_rule (new_app (codes "office")) (word (codes "SIDE")) in
    let in_book = with_rule (with_rule of_side (needed (codes "book"))) (needed (codes "point")) in
    with_rule (with_rule (with_rule in_book (flag (codes "clock"))) (option (codes "wait"))) (flag (codes "strict"))

-- the sessions and the books; how long is waited for these, whether only old ones are taken, whether copies of them are, and whether it is strict
abbrev pub the_serve : App
the_serve =
    let in_books = with_rule (with_rule (new_app (codes "serve")) (option (codes "sessions"))) (option (codes "books")) in
    let in_old_books = with_rule (with_rule in_books (option (codes "wait"))) (flag (codes "old")) in
    with_rule (with_rule in_old_books (flag (codes "dry-run"))) (flag (codes "strict"))

-- the program's own name and version, and its commands
abbrev pub named : App
named = let new = new_app (codes "dispatch") in record new { top = record new.top { has_version = true } }

abbrev pub the_program : App
the_program =
    let with_office = with_subcommand (with_subcommand (with_subcommand (with_subcommand named the_match.top) the_hours.top) the_simulate.top) the_office.top in
    let with_page = with_subcommand (with_subcommand (with_subcommand with_office the_report.top) the_explain.top) the_page.top in
    with_subcommand (with_subcommand (with_subcommand with_page the_audit.top) the_book.top) the_serve.top

-- why the words ask for no command, as `clap` tells it: none of these where they ask for one
abbrev pub objections : List (List ℕ) → Kinds
objections words = fault_of the_program words

-- ---- what is asked for

-- what was entered, as `clap` tells it: the command's name, and the values of its words
abbrev pub Entered : Type 0
Entered = Option (List ℕ × List Row)

abbrev pub hours_asked : Option (List ℕ) → Asked
hours_asked None = match_tables
hours_asked (Some day) = hours day

-- a book is named by its file and its point, both or neither
abbrev pub book_named : Option (List ℕ) → Option (List ℕ) → Option (Option (List ℕ × List ℕ))
book_named None None = Some None
book_named None (Some point) = None
book_named (Some file) None = None
book_named (Some file) (Some point) = Some (Some (file, point))

abbrev pub book_asked : List Row → Option (Option (List ℕ × List ℕ))
book_asked rows = book_named (first_of (codes "book") rows) (first_of (codes "point") rows)

-- `clap` gives a flag the value `true` where it is among the words
abbrev pub is_set : Option (List ℕ) → Bool
is_set None = false
is_set (Some value) = bytes_eq value (codes "true")

-- text where no format is named
abbrev pub format_asked : Option (List ℕ) → Option Format
format_asked None = Some Text
format_asked (Some word) = format_named word

-- what a report is narrowed to, by the words; only a schedule, cuts and changes are
abbrev pub narrowing_asked : List Row → NarrowingWords
narrowing_asked rows = record { day = first_of (codes "day") rows; portfolio = first_of (codes "portfolio") rows }

abbrev pub fits : ReportKind → NarrowingWords → Bool
fits kind words = can_be_narrowed kind || (not (is_some words.day) && not (is_some words.portfolio))

abbrev pub line_format_asked : Option (List ℕ) → Option LineFormat
line_format_asked None = Some line.Text
line_format_asked (Some word) = line_format_named word

abbrev pub report_of : Option ReportKind → Option Side → Option Format → NarrowingWords → Option (Option (List ℕ × List ℕ)) → Asked
report_of None side format words book = mistaken
report_of (Some kind) None format words book = mistaken
report_of (Some kind) (Some side) None words book = mistaken
report_of (Some kind) (Some side) (Some format) words None = mistaken
report_of (Some kind) (Some side) (Some format) words (Some book) = if fits kind words then report kind format side words book else mistaken

-- the value of a word, the empty one where there is none
abbrev pub value_of : List ℕ → List Row → List ℕ
value_of name rows = unwrap_or (first_of name rows) []

abbrev pub report_asked : List Row → Asked
report_asked rows =
    report_of (kind_named (value_of (codes "KIND") rows)) (side_named (value_of (codes "SIDE") rows)) (format_asked (first_of (codes "format") rows)) (narrowing_asked rows)
    (book_asked rows)

-- the words of a quantity are those of its portfolios and gas day, of whatever text, its direction, and numbers
abbrev pub quantity_of : List Row → Direction → ℕ → ℕ → QuantityWords
quantity_of rows direction cycle hour = record {
  initiating = value_of (codes "INITIATING") rows;
  matching = value_of (codes "MATCHING") rows;
  direction = direction;
  day = value_of (codes "DAY") rows;
  cycle = cycle;
  hour = hour;
}

abbrev pub quantity_named : List Row → Option Direction → Option ℕ → Option ℕ → Option QuantityWords
quantity_named rows None cycle hour = None
quantity_named rows (Some direction) None hour = None
quantity_named rows (Some direction) (Some cycle) None = None
quantity_named rows (Some direction) (Some cycle) (Some hour) = Some (quantity_of rows direction cycle hour)

abbrev pub quantity_asked : List Row → Option QuantityWords
quantity_asked rows =
    quantity_named rows (direction_named (value_of (codes "DIRECTION") rows)) (cycle_named (value_of (codes "CYCLE") rows)) (hour_named (value_of (codes "HOUR") rows))

abbrev pub explain_of : Option Side → Option QuantityWords → Option LineFormat → Option (Option (List ℕ × List ℕ)) → Asked
explain_of None quantity format book = mistaken
explain_of (Some side) None format book = mistaken
explain_of (Some side) (Some quantity) None book = mistaken
explain_of (Some side) (Some quantity) (Some format) None = mistaken
explain_of (Some side) (Some quantity) (Some format) (Some book) = explain format side quantity book

abbrev pub explain_asked : List Row → Asked
explain_asked rows =
    explain_of (side_named (value_of (codes "SIDE") rows)) (quantity_asked rows) (line_format_asked (first_of (codes "format") rows)) (book_asked rows)

abbrev pub page_of : List ℕ → Option Side → Option (Option (List ℕ × List ℕ)) → Asked
page_of day None book = mistaken
page_of day (Some side) None = mistaken
page_of day (Some side) (Some book) = page side day book

abbrev pub page_asked : List Row → Asked
page_asked rows = page_of (value_of (codes "DAY") rows) (side_named (value_of (codes "SIDE") rows)) (book_asked rows)

abbrev pub audit_of : List Row → Option LineFormat → Asked
audit_of rows None = mistaken
audit_of rows (Some format) = audit format (value_of (codes "initiating") rows) (value_of (codes "matching") rows) (value_of (codes "point") rows)

abbrev pub audit_asked : List Row → Asked
audit_asked rows = audit_of rows (line_format_asked (first_of (codes "format") rows))

-- no facts are expected where none are named
abbrev pub expected_asked : Option (List ℕ) → Option (Option (ℕ × List ℕ))
expected_asked None = Some None
expected_asked (Some word) = option_map Some (expected_named word)

abbrev pub about_book_of : List ℕ → Option (Option (ℕ × List ℕ)) → Asked
about_book_of file None = mistaken
about_book_of file (Some expected) = about_book file expected

abbrev pub about_book_asked : List Row → Asked
about_book_asked rows = about_book_of (value_of (codes "FILE") rows) (expected_asked (first_of (codes "expect") rows))

-- two sessions where no number is named
abbrev pub sessions_asked : Option (List ℕ) → Option ℕ
sessions_asked None = Some default_sessions
sessions_asked (Some word) = sessions_named word

-- no wait where none is named
abbrev pub wait_asked : Option (List ℕ) → Option ℕ
wait_asked None = Some no_wait
wait_asked (Some word) = wait_named word

-- a dry run is made over books
abbrev pub has_books : Bool → Option (List ℕ) → Bool
has_books dry_run books = not dry_run || is_some books

abbrev pub service_of : Option ℕ → Option ℕ → Option (List ℕ) → (only_old dry_run strict : Bool) → Wanted
service_of None wait books only_old dry_run strict = at_once mistaken
service_of (Some sessions) None books only_old dry_run strict = at_once mistaken
service_of (Some sessions) (Some wait) books only_old dry_run strict =
    if has_books dry_run books then serve (record { sessions = sessions; books = books; wait = wait; only_old = only_old; dry_run = dry_run; strict = strict })
    else at_once mistaken

abbrev pub serve_asked : List Row → Wanted
serve_asked rows =
    service_of (sessions_asked (first_of (codes "sessions") rows)) (wait_asked (first_of (codes "wait") rows)) (first_of (codes "books") rows) (is_set (first_of (codes "old") rows))
    (is_set (first_of (codes "dry-run") rows)) (is_set (first_of (codes "strict") rows))

-- an office is of a side, with the book in the file and for the point that are named
abbrev pub office_of : List Row → Option Side → Option ℕ → Wanted
office_of rows None wait = at_once mistaken
office_of rows (Some side) None = at_once mistaken
office_of rows (Some side) (Some wait) =
    office (record {
      side = side;
      file = value_of (codes "book") rows;
      point = value_of (codes "point") rows;
      wait = wait;
      by_clock = is_set (first_of (codes "clock") rows);
      strict = is_set (first_of (codes "strict") rows);
    })

abbrev pub office_asked : List Row → Wanted
office_asked rows = office_of rows (side_named (value_of (codes "SIDE") rows)) (wait_asked (first_of (codes "wait") rows))

-- a command is asked for by its name, and `match` also by no name
abbrev pub asked_at_once : List ℕ → List Row → Asked
asked_at_once name rows =
    if bytes_eq name (codes "hours") then hours_asked (first_of (codes "DAY") rows)
    else (if bytes_eq name (codes "simulate") then simulate (is_set (first_of (codes "trace") rows)) (is_set (first_of (codes "strict") rows))
    else (if bytes_eq name (codes "report") then report_asked rows
    else (if bytes_eq name (codes "explain") then explain_asked rows
    else (if bytes_eq name (codes "page") then page_asked rows
    else (if bytes_eq name (codes "audit") then audit_asked rows
    else (if bytes_eq name (codes "book") then about_book_asked rows else match_tables))))))

abbrev pub asked_by : List ℕ → List Row → Wanted
asked_by name rows =
    if bytes_eq name (codes "office") then office_asked rows
    else (if bytes_eq name (codes "serve") then serve_asked rows else at_once (asked_at_once name rows))

abbrev pub asked_of : Entered → Wanted
asked_of None = at_once match_tables
asked_of (Some entered) = asked_by entered.0 entered.1

-- what the words ask for, as `clap` reads them
abbrev pub asked : List (List ℕ) → Wanted
asked words = asked_of (subcommand_of the_program words)

-- ---- words that are always right, and words that ask for no command

-- the program's name alone, or with the word `match`, asks for the command `match`
abbrev pub MeansMatch : List (List ℕ) → Type 0
MeansMatch words = (program : List ℕ) × ((words ≡ program ∷ []) ⊎ (words ≡ program ∷ codes "match" ∷ []))

-- the program's name with the word `hours` and a word that starts with 1 or 2, as the days of the range and around it do
abbrev pub MeansHours : List (List ℕ) → List ℕ → Type 0
MeansHours words day = (program rest : List ℕ) × ((day ≡ 49 ∷ rest) ⊎ (day ≡ 50 ∷ rest)) × (words ≡ program ∷ codes "hours" ∷ day ∷ [])

-- the words ask for help or for the version alone
abbrev pub AsksForHelp : List (List ℕ) → Type 0
AsksForHelp words = (objections words ≡ DisplayHelp ∷ []) ⊎ (objections words ≡ DisplayVersion ∷ [])

-- `clap` objects to the words, and they ask for no help and no version
pub record IsObjected (words : List (List ℕ)) : Type 0 where
  pub some : objections words ≢ []
  pub no_help : (kind : ErrorKind) → IsAmong kind (objections words) → kind ≢ DisplayHelp
  pub no_version : (kind : ErrorKind) → IsAmong kind (objections words) → kind ≢ DisplayVersion

-- the words ask for no command: `clap` objects to them, or they are wrong words of a command
abbrev pub IsMistaken : List (List ℕ) → Type 0
IsMistaken words = IsObjected words ⊎ ((objections words ≡ []) × (asked words ≡ at_once mistaken))

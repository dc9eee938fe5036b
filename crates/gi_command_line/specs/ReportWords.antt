-- The words of `report` and the formats, and what is told of wrong words.
use Rattle.std.specs.Prelude.{◌++◌, ℕ, Bool, false, true, List, Option, None, Some, if◌then◌else◌, codes}
use Rattle.std.specs.Str.{bytes_eq}
use Rattle.gi_command_line.specs.declared.request.Format.{Format}
use Rattle.gi_command_line.specs.declared.request.Format.TheVariants.{Text, Csv, Json}
use Rattle.gi_command_line.specs.declared.request.LineFormat.{LineFormat}
use Rattle.gi_command_line.specs.declared.request.LineFormat.TheVariants as line
use Rattle.gi_command_line.specs.declared.request.Mistake.{Mistake}
use Rattle.gi_command_line.specs.declared.request.Mistake.TheVariants as mistake
use Rattle.gi_command_line.specs.declared.request.ReportKind.{ReportKind}
use Rattle.gi_command_line.specs.declared.request.ReportKind.TheVariants.{Open, Confirmed, Refused, Schedule, Cut, Changes}

-- the words of the kinds and of the formats
abbrev pub kind_text : ReportKind → List ℕ
kind_text Open = codes "open"
kind_text Confirmed = codes "confirmed"
kind_text Refused = codes "refused"
kind_text Schedule = codes "schedule"
kind_text Cut = codes "cut"
kind_text Changes = codes "changes"

-- a schedule, cuts and changes can be narrowed to a gas day and a portfolio
abbrev pub can_be_narrowed : ReportKind → Bool
can_be_narrowed Open = false
can_be_narrowed Confirmed = false
can_be_narrowed Refused = false
can_be_narrowed Schedule = true
can_be_narrowed Cut = true
can_be_narrowed Changes = true

abbrev pub format_text : Format → List ℕ
format_text Text = codes "text"
format_text Csv = codes "csv"
format_text Json = codes "json"

-- of an explanation or an audit
abbrev pub line_format_text : LineFormat → List ℕ
line_format_text line.Text = codes "text"
line_format_text line.Json = codes "json"

-- the kind of report that a word names
abbrev pub kind_named : List ℕ → Option ReportKind
kind_named word =
    if bytes_eq word (codes "open") then Some Open
    else (if bytes_eq word (codes "confirmed") then Some Confirmed
    else (if bytes_eq word (codes "refused") then Some Refused
    else (if bytes_eq word (codes "schedule") then Some Schedule
    else (if bytes_eq word (codes "cut") then Some Cut else (if bytes_eq word (codes "changes") then Some Changes else None)))))

-- the format that a word names
abbrev pub format_named : List ℕ → Option Format
format_named word =
    if bytes_eq word (codes "text") then Some Text
    else (if bytes_eq word (codes "csv") then Some Csv else (if bytes_eq word (codes "json") then Some Json else None))

-- the format of an explanation or an audit that a word names
abbrev pub line_format_named : List ℕ → Option LineFormat
line_format_named word = if bytes_eq word (codes "text") then Some line.Text else (if bytes_eq word (codes "json") then Some line.Json else None)

-- what is told of words that are wrong
abbrev pub mistake_text : Mistake → List ℕ
mistake_text (mistake.Kind word) =
    codes "error: invalid value '" ++ (word.now ++ codes "' for '<KIND>'\n  [possible values: open, confirmed, refused, schedule, cut, changes]\n")
mistake_text (mistake.Side word) = codes "error: invalid value '" ++ (word.now ++ codes "' for '<SIDE>'\n  [possible values: I, M]\n")
mistake_text mistake.Unpaired = codes "error: '--book <FILE>' and '--point <CODE>' need each other\n"
mistake_text (mistake.Format word) =
    codes "error: invalid value '" ++ (word.now ++ codes "' for '--format <FORMAT>'\n  [possible values: text, csv, json]\n")
mistake_text mistake.Narrowed = codes "error: '--day <DAY>' and '--portfolio <CODE>' are for a schedule, cuts and changes\n"
mistake_text (mistake.LineFormat word) =
    codes "error: invalid value '" ++ (word.now ++ codes "' for '--format <FORMAT>'\n  [possible values: text, json]\n")
mistake_text (mistake.Sessions word) =
    codes "error: invalid value '" ++ (word.now ++ codes "' for '--sessions <N>'\n  [possible values: 1 to 8]\n")
mistake_text (mistake.Direction word) =
    codes "error: invalid value '" ++ (word.now ++ codes "' for '<DIRECTION>'\n  [possible values: IM, MI]\n")
mistake_text (mistake.Cycle word) =
    codes "error: invalid value '" ++ (word.now ++ codes "' for '<CYCLE>'\n  [possible values: 0 to 36]\n")
mistake_text (mistake.Hour word) =
    codes "error: invalid value '" ++ (word.now ++ codes "' for '<HOUR>'\n  [possible values: 1 to 25]\n")
mistake_text (mistake.Expected word) =
    codes "error: invalid value '" ++ (word.now ++ codes "' for '--expect <N:DIGEST>'\n  [possible values: 0 to 1000000, a colon and 64 digits of 0-9 and a-f]\n")
mistake_text (mistake.Wait word) =
    codes "error: invalid value '" ++ (word.now ++ codes "' for '--wait <SECONDS>'\n  [possible values: 0 to 3600]\n")
mistake_text mistake.NoBooks = codes "error: '--dry-run' needs '--books <PREFIX>'\n"

-- What can be asked of the program.
use Rattle.std.specs.Prelude.{ℕ, Bool, false, List, Option, None, Some, option_map}
use Rattle.gi_pairs.specs.declared.direction.Direction.{Direction}
use Rattle.gi_pairs.specs.declared.side.Side.{Side}
use Rattle.gi_command_line.specs.declared.expected.ExpectedFacts.{ExpectedFacts}
use Rattle.gi_command_line.specs.declared.request.BookFile.{BookFile}
use Rattle.gi_command_line.specs.declared.request.Format.{Format}
use Rattle.gi_command_line.specs.declared.request.LineFormat.{LineFormat}
use Rattle.gi_command_line.specs.declared.request.NamedQuantity.{NamedQuantity}
use Rattle.gi_command_line.specs.declared.request.Narrowing.{Narrowing}
use Rattle.gi_command_line.specs.declared.request.OfficeRun.{OfficeRun}
use Rattle.gi_command_line.specs.declared.request.ReportKind.{ReportKind}
use Rattle.gi_command_line.specs.declared.request.Request.{Request}
use Rattle.gi_command_line.specs.declared.request.Request.TheVariants as request
use Rattle.gi_command_line.specs.declared.request.Service.{Service}
use Rattle.gi_command_line.specs.declared.request.Task.{Task}
use Rattle.gi_command_line.specs.declared.request.Task.TheVariants as task

-- the words of a quantity: its portfolios, direction and gas day, and the numbers of its cycle and hour
pub record QuantityWords : Type 0 where
  pub initiating : List ℕ
  pub matching : List ℕ
  pub direction : Direction
  pub day : List ℕ
  pub cycle : ℕ
  pub hour : ℕ

-- the words of the gas day and of the portfolio to which a report is narrowed, where there are any
pub record NarrowingWords : Type 0 where
  pub day : Option (List ℕ)
  pub portfolio : Option (List ℕ)

-- one of the commands but `office` and `serve`: a script's steps, with a trace or without, and strictly or not; a report of this kind, in this format
-- and of this side, narrowed so, in this format what a quantity comes from at a side, or the page of a side's gas day, over a script or over
-- the book in a file, for this point; in this format the audit of the initiating and the matching operator's books in files, for this point; what a book in a
-- file is, with the number of its first facts that are expected to have a digest, and the digest; or a command in wrong words
pub data Asked : Type 0 where
  match_tables : Asked
  hours : List ℕ → Asked
  simulate : Bool → Bool → Asked
  report : ReportKind → Format → Side → NarrowingWords → Option (List ℕ × List ℕ) → Asked
  explain : LineFormat → Side → QuantityWords → Option (List ℕ × List ℕ) → Asked
  page : Side → List ℕ → Option (List ℕ × List ℕ) → Asked
  audit : LineFormat → List ℕ → List ℕ → List ℕ → Asked
  about_book : List ℕ → Option (ℕ × List ℕ) → Asked
  mistaken : Asked

-- what a request asks for
abbrev pub book_of : Option BookFile → Option (List ℕ × List ℕ)
book_of None = None
book_of (Some book) = Some (book.file.now, book.point.now)

abbrev pub quantity_words : NamedQuantity → QuantityWords
quantity_words named = record {
  initiating = named.initiating.now;
  matching = named.matching.now;
  direction = named.direction;
  day = named.day.now;
  cycle = named.cycle;
  hour = named.hour;
}

abbrev pub narrowing_words : Narrowing → NarrowingWords
narrowing_words narrowing = record { day = option_map (λ s. s.now) narrowing.day; portfolio = option_map (λ s. s.now) narrowing.portfolio }

abbrev pub expected_words : ExpectedFacts → ℕ × List ℕ
expected_words expected = (expected.facts, expected.digest.now)

abbrev pub meaning : Request → Asked
meaning request.Match = match_tables
meaning (request.Hours day) = hours day.now
meaning (request.Simulate trace strict) = simulate trace strict
meaning (request.Report wanted) = report wanted.kind wanted.format wanted.side (narrowing_words wanted.narrowing) (book_of wanted.book)
meaning (request.Explain wanted) = explain wanted.format wanted.side (quantity_words wanted.quantity) (book_of wanted.book)
meaning (request.Page wanted) = page wanted.side wanted.day.now (book_of wanted.book)
meaning (request.Audit wanted) = audit wanted.format wanted.books.initiating.now wanted.books.matching.now wanted.books.point.now
meaning (request.Book question) = about_book question.file.now (option_map expected_words question.expected)
meaning (request.Mistaken why) = mistaken

-- how both offices run: each with so many sessions, and their books in the files whose names begin so, else in memory; for so
-- many seconds a book that is in use is tried again, and books are made or only old ones are taken; over the files or over copies
-- of them in memory; and strictly or not
pub record ServiceWords : Type 0 where
  pub sessions : ℕ
  pub books : Option (List ℕ)
  pub wait : ℕ
  pub only_old : Bool
  pub dry_run : Bool
  pub strict : Bool

abbrev pub service_words : Service → ServiceWords
service_words service = record {
  sessions = service.sessions;
  books = option_map (λ s. s.now) service.books;
  wait = service.wait;
  only_old = service.only_old;
  dry_run = service.dry_run;
  strict = service.strict;
}

-- how one operator's office runs: of this side, with its book in this file, for this point; for so many seconds a book that is in
-- use is tried again; whether it is told the time by the machine's clock; and strictly or not
pub record OfficeWords : Type 0 where
  pub side : Side
  pub file : List ℕ
  pub point : List ℕ
  pub wait : ℕ
  pub by_clock : Bool
  pub strict : Bool

abbrev pub office_words : OfficeRun → OfficeWords
office_words run = record {
  side = run.side;
  file = run.book.file.now;
  point = run.book.point.now;
  wait = run.wait;
  by_clock = run.by_clock;
  strict = run.strict;
}

-- any of the commands: one of these, one operator's office, or both offices run by a script
pub data Wanted : Type 0 where
  at_once : Asked → Wanted
  office : OfficeWords → Wanted
  serve : ServiceWords → Wanted

abbrev pub task_meaning : Task → Wanted
task_meaning (task.AtOnce request) = at_once (meaning request)
task_meaning (task.Office run) = office (office_words run)
task_meaning (task.Serve service) = serve (service_words service)

-- what is asked strictly fails where a step is refused
abbrev pub is_strict_at_once : Asked → Bool
is_strict_at_once (simulate trace strict) = strict
is_strict_at_once _ = false

abbrev pub is_strict : Wanted → Bool
is_strict (at_once asked) = is_strict_at_once asked
is_strict (office run) = run.strict
is_strict (serve service) = service.strict

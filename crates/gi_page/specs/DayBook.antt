-- The nominations of a gas day that were in force as a cycle was closed: of each portfolio the number of the fact.
use Rattle.std.specs.Prelude.{◌≡◌, ℕ, ⊤, List, map, take, if◌then◌else◌, Option, Some, None}
use Rattle.std.specs.BTreeMap.{is_at}
use Rattle.std.specs.Map.{lookup}
use Rattle.std.specs.Str.{bytes_eq}
use Rattle.jiff_core.specs.declared.civil.date.Date.{Date}
use Rattle.gi_day.specs.SameDay.{same_day}
use Rattle.gi_pairs.specs.Key.{code_cmp}
use Rattle.gi_pairs.specs.declared.cycle_id.CycleId.{CycleId}
use Rattle.gi_messages.specs.declared.message.Nomint.{Nomint}
use Rattle.gi_nominations.specs.Book.{in_force}
use Rattle.gi_facts.specs.declared.fact.Fact.{Fact}
use Rattle.gi_facts.specs.declared.fact.Fact.TheVariants.{Nominated}
use Rattle.gi_desk.specs.History.{documents_of, facts_before, is_closing}
use Rattle.gi_desk.specs.Queries.{fact_at}
use Rattle.gi_schedule.specs.InForce.{cycle_of}
use Rattle.gi_page.specs.declared.hour_book.HourBook.{HourBook}
use Rattle.gi_page.specs.declared.hour_cycles.HourCycles.{HourCycles}

-- the number of a portfolio
abbrev pub number_in : List (List ℕ × ℕ) → List ℕ → Option ℕ
number_in book portfolio = lookup (is_at (code_cmp portfolio)) book

abbrev pub nomination_in : Option Fact → Option Nomint
nomination_in (Some (Nominated document)) = Some document
nomination_in fact = None

-- the nomination of a fact, by its number
abbrev pub numbered : List Fact → Option ℕ → Option Nomint
numbered facts None = None
numbered facts (Some n) = nomination_in (fact_at facts n)

-- whose nomination for the gas day a fact takes
abbrev pub portfolio_taken : Date → Option Fact → Option (List ℕ)
portfolio_taken day (Some (Nominated document)) = if same_day document.day day then Some document.portfolio else None
portfolio_taken day fact = None

-- the number of a portfolio once a number more is put under one
abbrev pub number_put : List ℕ → Option ℕ → Option (List ℕ) → ℕ → Option ℕ
number_put portfolio found None n = found
number_put portfolio found (Some own) n = if bytes_eq own portfolio then Some n else found

-- by the first so many facts
abbrev pub IsBook : List Fact → Date → ℕ → List (List ℕ × ℕ) → Type 0
IsBook facts day end book = (portfolio : List ℕ) → numbered facts (number_in book portfolio) ≡ in_force portfolio day (documents_of (take end facts))

-- as a cycle was closed
abbrev pub IsBookOf : List Fact → CycleId → List (List ℕ × ℕ) → Type 0
IsBookOf facts id book = (portfolio : List ℕ) → numbered facts (number_in book portfolio) ≡ in_force portfolio id.day (documents_of (facts_before (is_closing id) facts))

-- a book of the cycle that is shown, where one is
abbrev pub IsBookIf : List Fact → Date → Option ℕ → List (List ℕ × ℕ) → Type 0
IsBookIf facts day None book = ⊤
IsBookIf facts day (Some cycle) book = IsBookOf facts (cycle_of day cycle) book

-- an hour with the book of the cycle that is shown for it
abbrev pub IsHourBook : List Fact → Date → HourBook → Type 0
IsHourBook facts day hour = IsBookIf facts day hour.at.shown hour.book.entries

abbrev pub cycles_in : List HourBook → List HourCycles
cycles_in books = map (λ hour. hour.at) books

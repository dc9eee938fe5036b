-- What a line asks of a running office beside a call.
use Rattle.std.specs.Prelude.{◌≡◌, ◌≤◌, ℕ, ℤ, List, [], ◌∷◌, codes, find, Option, Some, None}
use Rattle.std.specs.Int.{IsInRange}
use Rattle.std.specs.Str.{IsUtf8, bytes_eq}
use Rattle.jiff_core.specs.declared.civil.date.Date.{Date}
use Rattle.gi_explanations.specs.declared.question.Question.{Question}
use Rattle.gi_moments.specs.Moment.{IsMomentText}
use Rattle.gi_script.specs.Grammar.{IsCodeWord, IsDayWord, IsDirectionWord}
use Rattle.gi_script.specs.Numbers.{IsCount, IsNumber, most_byte}
use Rattle.gi_script.specs.Words.{words_of}
use Rattle.gi_schedule.specs.declared.wanted.Wanted.{Wanted}
use Rattle.gi_live.specs.declared.query.Query.{Query}
use Rattle.gi_live.specs.declared.query.Query.TheVariants as queries
use Rattle.gi_live.specs.declared.query.QueryWord.{QueryWord}
use Rattle.gi_live.specs.declared.query.QueryWord.TheVariants as query_words
use Rattle.gi_live.specs.declared.query.Report.{Report}
use Rattle.gi_live.specs.declared.query.Report.TheVariants as reports
use Rattle.gi_live.specs.declared.query.ReportQuery.{ReportQuery}

-- ---- words

abbrev pub word_text : QueryWord → List ℕ
word_text query_words.Outgoing = codes "outgoing"
word_text query_words.Facts = codes "facts"
word_text query_words.Report = codes "report"
word_text query_words.Explain = codes "explain"
word_text query_words.Due = codes "due"

abbrev pub all_words : List QueryWord
all_words = query_words.Outgoing ∷ query_words.Facts ∷ query_words.Report ∷ query_words.Explain ∷ query_words.Due ∷ []

-- the word of that text
unfoldable pub query_word : List ℕ → Option QueryWord
query_word text = find (λ word. bytes_eq text (word_text word)) all_words

abbrev pub kind_text : Report → List ℕ
kind_text reports.Open = codes "open"
kind_text reports.Confirmed = codes "confirmed"
kind_text reports.Schedule = codes "schedule"
kind_text reports.Cut = codes "cut"
kind_text reports.Changes = codes "changes"

abbrev pub all_kinds : List Report
all_kinds = reports.Open ∷ reports.Confirmed ∷ reports.Schedule ∷ reports.Cut ∷ reports.Changes ∷ []

-- the kind of report of that text
unfoldable pub kind_named : List ℕ → Option Report
kind_named text = find (λ kind. bytes_eq text (kind_text kind)) all_kinds

-- ---- what follows the first word

-- `N`
pub record SaysStart (words : List (List ℕ)) (number : ℕ) : Type 0 where
  pub word : List ℕ
  pub are : words ≡ word ∷ []
  pub is_number : IsCount word number

-- every gas day and every portfolio
abbrev pub everything : Wanted
everything = record { day = None; portfolio = None }

-- `[PORTFOLIO]`
abbrev pub IsPortfolioAfter : List (List ℕ) → Option (List ℕ) → Type 0
IsPortfolioAfter [] portfolio = portfolio ≡ None
IsPortfolioAfter (word ∷ []) portfolio = (code : List ℕ) × (portfolio ≡ Some code) × IsCodeWord word code
IsPortfolioAfter (word ∷ next ∷ others) portfolio = ⊥

-- `[DAY [PORTFOLIO]]`
abbrev pub SaysNarrowing : List (List ℕ) → Wanted → Type 0
SaysNarrowing [] wanted = wanted ≡ everything
SaysNarrowing (word ∷ others) wanted = (day : Date) × (wanted.day ≡ Some day) × IsDayWord word day × IsPortfolioAfter others wanted.portfolio

-- a schedule, cuts and changes can be narrowed
abbrev pub SaysWanted : Report → List (List ℕ) → Wanted → Type 0
SaysWanted reports.Open words wanted = (words ≡ []) × (wanted ≡ everything)
SaysWanted reports.Confirmed words wanted = (words ≡ []) × (wanted ≡ everything)
SaysWanted reports.Schedule words wanted = SaysNarrowing words wanted
SaysWanted reports.Cut words wanted = SaysNarrowing words wanted
SaysWanted reports.Changes words wanted = SaysNarrowing words wanted

-- `KIND`, and what it is narrowed to
pub record SaysReport (words : List (List ℕ)) (asked : ReportQuery) : Type 0 where
  pub word : List ℕ
  pub others : List (List ℕ)
  pub are : words ≡ word ∷ others
  pub is_kind : kind_named word ≡ Some asked.kind
  pub narrowed : SaysWanted asked.kind others asked.wanted

-- `INITIATING MATCHING DIRECTION DAY CYCLE HOUR`, of a cycle and an hour that a gas day can have
pub record SaysQuantity (words : List (List ℕ)) (question : Question) : Type 0 where
  pub initiating : List ℕ
  pub matching : List ℕ
  pub direction : List ℕ
  pub day : List ℕ
  pub cycle : List ℕ
  pub hour : List ℕ
  pub are : words ≡ initiating ∷ matching ∷ direction ∷ day ∷ cycle ∷ hour ∷ []
  pub is_initiating : IsCodeWord initiating question.pair.initiating
  pub is_matching : IsCodeWord matching question.pair.matching
  pub is_direction : IsDirectionWord direction question.direction
  pub is_day : IsDayWord day question.id.day
  pub is_cycle : IsNumber most_byte cycle question.id.cycle
  pub is_hour : IsNumber most_byte hour question.hour
  pub cycles : question.id.cycle ≤ 36
  pub hours : IsInRange 1 25 question.hour

-- `MOMENT`
pub record SaysMoment (words : List (List ℕ)) (moment : ℤ) : Type 0 where
  pub word : List ℕ
  pub are : words ≡ word ∷ []
  pub is_moment : IsMomentText word moment

-- what the words behind the first one ask
abbrev pub SaysQuery : QueryWord → List (List ℕ) → Query → Type 0
SaysQuery query_words.Outgoing words query = (number : ℕ) × (query ≡ queries.Outgoing number) × SaysStart words number
SaysQuery query_words.Facts words query = (query ≡ queries.Facts) × (words ≡ [])
SaysQuery query_words.Report words query = (asked : ReportQuery) × (query ≡ queries.Report asked) × SaysReport words asked
SaysQuery query_words.Explain words query = (question : Question) × (query ≡ queries.Explain question) × SaysQuantity words question
SaysQuery query_words.Due words query = (moment : ℤ) × (query ≡ queries.Due moment) × SaysMoment words moment

-- A line asks it: it is UTF-8, and its words are parted by one space each.
pub record AsksQuery (line : List ℕ) (query : Query) : Type 0 where
  pub first : List ℕ
  pub word : QueryWord
  pub rest : List (List ℕ)
  pub text : IsUtf8 line
  pub are : words_of line ≡ first ∷ rest
  pub named : query_word first ≡ Some word
  pub says : SaysQuery word rest query

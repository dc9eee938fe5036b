-- What the words of a query ask, by the first one, and what a line asks that is ended.
use Rattle.std.proofs.Common.{◌≡◌, ℕ, ℤ, List, [], ◌∷◌, refl, subst, sym, ◌∙◌, Option, Some, None}
use Rattle.jiff_core.specs.declared.civil.date.Date.{Date}
use Rattle.gi_explanations.specs.declared.question.Question.{Question}
use Rattle.gi_schedule.specs.declared.wanted.Wanted.{Wanted}
use Rattle.gi_script.specs.Grammar.{IsDayWord}
use Rattle.gi_script.specs.Reading.{Finds}
use Rattle.gi_live.specs.Answering.{AsksGiven}
use Rattle.gi_live.specs.Lines.{IsEnded}
use Rattle.gi_live.specs.Queries.{AsksQuery, IsPortfolioAfter, SaysMoment, SaysNarrowing, SaysReport, SaysQuantity, SaysQuery, SaysStart}
use Rattle.gi_live.specs.declared.query.Query.{Query}
use Rattle.gi_live.specs.declared.query.Query.TheVariants as queries
use Rattle.gi_live.specs.declared.query.QueryWord.{QueryWord}
use Rattle.gi_live.specs.declared.query.QueryWord.TheVariants as query_words
use Rattle.gi_live.proofs.Requests.{end_is}

pub no_start : (word : QueryWord) (words : List (List ℕ)) (found : Option Query) → word ≡ query_words.Outgoing → found ≡ None → Finds (SaysStart words) None
    → Finds (SaysQuery word words) found
no_start word words found is none start = rw (is, none) (λ query says. start says.0 says.2)

pub no_report : (word : QueryWord) (words : List (List ℕ)) (found : Option Query) → word ≡ query_words.Report → found ≡ None → Finds (SaysReport words) None
    → Finds (SaysQuery word words) found
no_report word words found is none report = rw (is, none) (λ query says. report says.0 says.2)

pub no_quantity : (word : QueryWord) (words : List (List ℕ)) (found : Option Query) → word ≡ query_words.Explain → found ≡ None → Finds (SaysQuantity words) None
    → Finds (SaysQuery word words) found
no_quantity word words found is none quantity = rw (is, none) (λ query says. quantity says.0 says.2)

pub quantity : (word : QueryWord) (words : List (List ℕ)) (question : Question) → word ≡ query_words.Explain → SaysQuantity words question
    → SaysQuery word words (queries.Explain question)
quantity word words question is says = rw is (question, refl, says)

pub no_moment : (word : QueryWord) (words : List (List ℕ)) (found : Option Query) → word ≡ query_words.Due → found ≡ None → Finds (SaysMoment words) None
    → Finds (SaysQuery word words) found
no_moment word words found is none moment = rw (is, none) (λ query says. moment says.0 says.2)

pub moment : (word : QueryWord) (words : List (List ℕ)) (at : ℤ) → word ≡ query_words.Due → SaysMoment words at → SaysQuery word words (queries.Due at)
moment word words at is says = rw is (at, refl, says)

pub given_is : (given text : List ℕ) (found : Option Query) → IsEnded given text → Finds (AsksQuery text) found → Finds (AsksGiven given) found
given_is given text (Some query) ended asks = (text, ended, asks)
given_is given text None ended none =
    λ query asked. none query (subst (λ line. AsksQuery line query) (end_is asked.0 text (sym asked.1 ∙ ended)) asked.2)

-- words of which the first is no gas day narrow to nothing
pub no_day : (words : List (List ℕ)) → ¬ (words ≡ []) → ((word : List ℕ) (others : List (List ℕ)) (day : Date) → words ≡ word ∷ others → ¬ IsDayWord word day)
    → Finds (SaysNarrowing words) None
no_day [] some none = λ wanted says. some refl
no_day (word ∷ others) some none = λ wanted says. none word others says.0 refl says.2

pub from_day : (words rest : List (List ℕ)) (word : List ℕ) (day : Date) (portfolio : Option (List ℕ)) → words ≡ word ∷ rest → IsDayWord word day → IsPortfolioAfter rest portfolio
    → SaysNarrowing words (record { day = Some day; portfolio = portfolio })
from_day words rest word day portfolio are is after = rw are (day, refl, is, after)

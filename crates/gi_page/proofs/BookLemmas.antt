-- The nominations in force by the first facts.
use Rattle.std.proofs.Common.{◌≡◌, ◌<◌, ◌+◌, ◌∙◌, ℕ, List, [], ◌∷◌, length, take, Bool, true, false, cond, ◌&&◌, Option, Some, None, refl, sym, ap}
use Rattle.std.specs.Prelude.{find, if◌then◌else◌}
use Rattle.std.specs.BTreeMap.{is_at}
use Rattle.std.specs.Str.{bytes_eq}
use Rattle.std.proofs.lemmas.Map.Text.{is_eq-slice_cmp}
use Rattle.jiff_core.specs.declared.civil.date.Date.{Date}
use Rattle.gi_day.specs.SameDay.{same_day}
use Rattle.gi_pairs.specs.Key.{code_cmp}
use Rattle.gi_pairs.specs.Pair.{code_at}
use Rattle.gi_pairs.specs.Side.{other}
use Rattle.gi_pairs.specs.declared.cycle_id.CycleId.{CycleId}
use Rattle.gi_pairs.specs.declared.key.Key.{Key}
use Rattle.gi_pairs.specs.declared.side.Side.{Side}
use Rattle.gi_messages.specs.declared.message.Nomint.{Nomint}
use Rattle.gi_messages.specs.declared.nomination_line.NominationLine.{NominationLine}
use Rattle.gi_processing.specs.Processing.{lines_of}
use Rattle.gi_nominations.specs.Book.{in_force, is_of}
use Rattle.gi_facts.specs.declared.fact.Fact.{Fact}
use Rattle.gi_facts.specs.declared.fact.Fact.TheVariants.{Closed, Contracted, Met, Nominated, Noticed}
use Rattle.gi_desk.specs.History.{documents_of}
use Rattle.gi_desk.specs.Queries.{fact_at}
use Rattle.gi_schedule.specs.Nominated.{is_line, nominated_line, taken}
use Rattle.gi_schedule.proofs.NominatedLemmas.{none_taken, taken_more}
use Rattle.gi_page.specs.DayBook.{IsBook, IsBookOf, nomination_in, number_in, number_put, numbered, portfolio_taken}

pub no_book : (facts : List Fact) (day : Date) (book : List (List ℕ × ℕ)) → book ≡ [] → IsBook facts day 0 book
no_book facts day book none = λ portfolio. ap (λ (es : List (List ℕ × ℕ)). numbered facts (number_in es portfolio)) none ∙ sym (none_taken portfolio day)

-- a number that a map has been given
pub put_found : (own other : List ℕ) (n : ℕ) (old new : Option ℕ) → new ≡ cond (is_at (code_cmp own) other) (Some n) old → new ≡ number_put other old (Some own) n
put_found own other n old new is = is ∙ ap (λ b. cond b (Some n) old) (is_eq-slice_cmp own other)

put_taken : (facts : List Fact) (portfolio : List ℕ) (day : Date) (found : Option ℕ) (fact : Option Fact) (n : ℕ) → fact ≡ fact_at facts n
    → numbered facts (number_put portfolio found (portfolio_taken day fact) n) ≡ taken portfolio day (numbered facts found) fact
put_taken facts portfolio day found None n is = refl
put_taken facts portfolio day found (Some (Contracted contract)) n is = refl
put_taken facts portfolio day found (Some (Noticed notice)) n is = refl
put_taken facts portfolio day found (Some (Closed id rule)) n is = refl
put_taken facts portfolio day found (Some (Met id peer)) n is = refl
put_taken facts portfolio day found (Some (Nominated document)) n is = by (bytes_eq document.portfolio portfolio) (same_day document.day day) refl
  where
    by : (own same : Bool) → bytes_eq document.portfolio portfolio ≡ own
        → numbered facts (number_put portfolio found (if same then Some document.portfolio else None) n) ≡ (if own && same then Some document else numbered facts found)
    by true true own_is = ap (λ b. numbered facts (if b then Some n else found)) own_is ∙ ap nomination_in (sym is)
    by false true own_is = ap (λ b. numbered facts (if b then Some n else found)) own_is
    by true false own_is = refl
    by false false own_is = refl

-- one fact more
pub book_more : (facts : List Fact) (day : Date) (i : ℕ) (old new : List (List ℕ × ℕ)) (fact : Option Fact) (portfolio : Option (List ℕ)) → i < length facts → fact ≡ fact_at facts (i + 1)
    → portfolio ≡ portfolio_taken day fact → ((other : List ℕ) → number_in new other ≡ number_put other (number_in old other) portfolio (i + 1)) → IsBook facts day i old
    → IsBook facts day (i + 1) new
book_more facts day i old new fact portfolio below fact_is portfolio_is put_is is = λ other.
    taken_more other day facts i (numbered facts (number_in old other)) (numbered facts (number_in new other)) fact below (is other) fact_is
    (ap (numbered facts) (put_is other ∙ ap (λ (p : Option (List ℕ)). number_put other (number_in old other) p (i + 1)) portfolio_is)
    ∙ put_taken facts other day (number_in old other) fact (i + 1) fact_is)

-- the line of the nomination that a book has
pub line_is : (side : Side) (facts : List Fact) (id : CycleId) (key : Key) (book : List (List ℕ × ℕ)) (own counterparty : List ℕ) (document : Option Nomint) (line : Option NominationLine) → IsBookOf facts id book
    → own ≡ code_at side key.pair → counterparty ≡ code_at (other side) key.pair → document ≡ numbered facts (number_in book own)
    → line ≡ find (is_line counterparty key.direction) (lines_of document) → line ≡ nominated_line side facts id key
line_is side facts id key book own counterparty document line books own_is counterparty_is document_is line_of =
    let nominated = document_is ∙ ap (λ (code : List ℕ). numbered facts (number_in book code)) own_is ∙ books (code_at side key.pair) in
    line_of ∙ (λ t. find (is_line (counterparty_is t) key.direction) (lines_of (nominated t)))

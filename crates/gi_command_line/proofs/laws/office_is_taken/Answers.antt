use Rattle.std.proofs.Common.{◌≡◌, ◌∙◌, ◌++◌, ap, codes, List, [], ◌∷◌, ℕ, Option, None, Some, true, false, refl}
use Rattle.clap.proofs.OnLiterals.{clap_on_literals}
use Rattle.clap.specs.declared.error.kind.ErrorKind.TheVariants.{MissingRequiredArgument}
use Rattle.gi_pairs.specs.Side.{side_named}
use Rattle.gi_pairs.specs.declared.side.Side.{Side}
use Rattle.gi_pairs.specs.declared.side.Side.TheVariants.{I, M}
use Rattle.gi_command_line.specs.Asked.{Wanted, at_once, mistaken}
use Rattle.gi_command_line.specs.CommandLine.{asked, objections}
use Rattle.gi_command_line.specs.Laws.{book_in_words, book_words, words_of_office, runs, runs_so, with_value}
use Rattle.gi_command_line.specs.Wait.{wait_named}
use Rattle.gi_command_line.proofs.laws.office_is_taken.Goals as goal

no_objection : (program file point : List ℕ) (side : Side) → objections (words_of_office program side (book_words file point)) ≡ []
unfolding clap_on_literals side_named
no_objection program file point I = refl
no_objection program file point M = refl

asks : (program file point : List ℕ) (side : Side) → asked (words_of_office program side (book_words file point)) ≡ runs side file point 0
unfolding clap_on_literals side_named
asks program file point I = refl
asks program file point M = refl

abbrev waiting : (program file point wait : List ℕ) → Side → List (List ℕ)
waiting program file point wait side = words_of_office program side (with_value (codes "wait") wait ∷ book_words file point)

no_objection_to_wait : (program file point wait : List ℕ) (side : Side) → objections (waiting program file point wait side) ≡ []
unfolding clap_on_literals side_named
no_objection_to_wait program file point wait I = refl
no_objection_to_wait program file point wait M = refl

-- what is asked of a side and a wait that are read so
abbrev asked_by : (file point : List ℕ) → Option Side → Option ℕ → Wanted
asked_by file point None wait = at_once mistaken
asked_by file point (Some side) None = at_once mistaken
asked_by file point (Some side) (Some wait) = runs side file point wait

asks_to_wait : (program file point wait : List ℕ) (side : Side)
    → asked (waiting program file point wait side) ≡ asked_by file point (Some side) (wait_named wait)
unfolding clap_on_literals side_named
asks_to_wait program file point wait I = refl
asks_to_wait program file point wait M = refl

abbrev by_clock : (program file point : List ℕ) → Side → List (List ℕ)
by_clock program file point side = words_of_office program side (codes "--clock" ∷ book_words file point)

no_objection_to_clock : (program file point : List ℕ) (side : Side) → objections (by_clock program file point side) ≡ []
unfolding clap_on_literals side_named
no_objection_to_clock program file point I = refl
no_objection_to_clock program file point M = refl

asks_by_clock : (program file point : List ℕ) (side : Side) → asked (by_clock program file point side) ≡ runs_so true false side file point 0
unfolding clap_on_literals side_named
asks_by_clock program file point I = refl
asks_by_clock program file point M = refl

abbrev strictly : (program file point : List ℕ) → Side → List (List ℕ)
strictly program file point side = words_of_office program side (codes "--strict" ∷ book_words file point)

no_objection_to_strict : (program file point : List ℕ) (side : Side) → objections (strictly program file point side) ≡ []
unfolding clap_on_literals side_named
no_objection_to_strict program file point I = refl
no_objection_to_strict program file point M = refl

asks_strictly : (program file point : List ℕ) (side : Side) → asked (strictly program file point side) ≡ runs_so false true side file point 0
unfolding clap_on_literals side_named
asks_strictly program file point I = refl
asks_strictly program file point M = refl

no_objection_in_words : (program file point : List ℕ) (side : Side) → objections (words_of_office program side (book_in_words file point)) ≡ []
unfolding clap_on_literals side_named
no_objection_in_words program file point I = refl
no_objection_in_words program file point M = refl

asks_in_words : (program file point : List ℕ) (side : Side)
    → asked (words_of_office program side (book_in_words file point)) ≡ runs side (codes "day" ++ file) (codes "BORDER" ++ point) 0
unfolding clap_on_literals side_named
asks_in_words program file point I = refl
asks_in_words program file point M = refl

abbrev of_side : (program file point side : List ℕ) → List (List ℕ)
of_side program file point side = program ∷ codes "office" ∷ (book_words file point ++ codes "--" ∷ side ∷ [])

no_objection_to_side : (program file point side : List ℕ) → objections (of_side program file point side) ≡ []
unfolding clap_on_literals
no_objection_to_side program file point side = refl

asks_of_side : (program file point side : List ℕ) → asked (of_side program file point side) ≡ asked_by file point (side_named side) (Some 0)
unfolding clap_on_literals
asks_of_side program file point side = refl

no_side : (program file point : List ℕ) → objections (program ∷ codes "office" ∷ book_words file point) ≡ MissingRequiredArgument ∷ []
unfolding clap_on_literals
no_side program file point = refl

no_book : (program point : List ℕ) (side : Side) → objections (words_of_office program side (with_value (codes "point") point ∷ [])) ≡ MissingRequiredArgument ∷ []
unfolding clap_on_literals side_named
no_book program point I = refl
no_book program point M = refl

no_point : (program file : List ℕ) (side : Side) → objections (words_of_office program side (with_value (codes "book") file ∷ [])) ≡ MissingRequiredArgument ∷ []
unfolding clap_on_literals side_named
no_point program file I = refl
no_point program file M = refl

pub returns-clause-taken : goal.returns-clause-taken
returns-clause-taken c = λ program file point side. (no_objection program file point side, asks program file point side)

pub returns-clause-waits : goal.returns-clause-waits
returns-clause-waits c = λ program file point wait side seconds named.
    (no_objection_to_wait program file point wait side, asks_to_wait program file point wait side ∙ ap (asked_by file point (Some side)) named)

pub returns-clause-by_clock : goal.returns-clause-by_clock
returns-clause-by_clock c = λ program file point side. (no_objection_to_clock program file point side, asks_by_clock program file point side)

pub returns-clause-strict : goal.returns-clause-strict
returns-clause-strict c = λ program file point side. (no_objection_to_strict program file point side, asks_strictly program file point side)

pub returns-clause-in_words : goal.returns-clause-in_words
returns-clause-in_words c = λ program file point side. (no_objection_in_words program file point side, asks_in_words program file point side)

pub returns-clause-of_no_side : goal.returns-clause-of_no_side
returns-clause-of_no_side c = λ program file point side none.
    (no_objection_to_side program file point side, asks_of_side program file point side ∙ ap (λ (read : Option Side). asked_by file point read (Some 0)) none)

pub returns-clause-needs_seconds : goal.returns-clause-needs_seconds
returns-clause-needs_seconds c = λ program file point wait side none.
    (no_objection_to_wait program file point wait side, asks_to_wait program file point wait side ∙ ap (asked_by file point (Some side)) none)

pub returns-clause-needs_a_side : goal.returns-clause-needs_a_side
returns-clause-needs_a_side c = no_side

pub returns-clause-needs_its_book : goal.returns-clause-needs_its_book
returns-clause-needs_its_book c = no_book

pub returns-clause-needs_its_point : goal.returns-clause-needs_its_point
returns-clause-needs_its_point c = no_point

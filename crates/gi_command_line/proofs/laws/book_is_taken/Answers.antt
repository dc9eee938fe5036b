use Rattle.std.proofs.Common.{◌≡◌, ◌∙◌, ◌++◌, ap, codes, List, [], ◌∷◌, ℕ, Option, Some, None, option_map, refl}
use Rattle.clap.proofs.OnLiterals.{clap_on_literals}
use Rattle.clap.specs.declared.error.kind.ErrorKind.TheVariants.{MissingRequiredArgument}
use Rattle.gi_command_line.specs.Asked.{Wanted, about_book, at_once}
use Rattle.gi_command_line.specs.CommandLine.{about_book_of, asked, objections}
use Rattle.gi_command_line.specs.Expected.{expected_named}
use Rattle.gi_command_line.specs.Laws.{about_book_words, with_value}
use Rattle.gi_command_line.proofs.FirstFacts.{expected_is_its_text, expected_is_named}
use Rattle.gi_command_line.proofs.laws.book_is_taken.Goals as goal

no_objection : (program file : List ℕ) → objections (about_book_words program [] file) ≡ []
unfolding clap_on_literals
no_objection program file = refl

asks : (program file : List ℕ) → asked (about_book_words program [] file) ≡ at_once (about_book file None)
unfolding clap_on_literals
asks program file = refl

no_plain_objection : (program file : List ℕ) → objections (program ∷ codes "book" ∷ (codes "day" ++ file) ∷ []) ≡ []
unfolding clap_on_literals
no_plain_objection program file = refl

asks_plainly : (program file : List ℕ) → asked (program ∷ codes "book" ∷ (codes "day" ++ file) ∷ []) ≡ at_once (about_book (codes "day" ++ file) None)
unfolding clap_on_literals
asks_plainly program file = refl

abbrev expecting : List ℕ → List ℕ → List ℕ → List (List ℕ)
expecting program file expected = about_book_words program (with_value (codes "expect") expected ∷ []) file

no_objection_to_expected : (program file expected : List ℕ) → objections (expecting program file expected) ≡ []
unfolding clap_on_literals
no_objection_to_expected program file expected = refl

-- what is asked where the expected facts are read so
abbrev asked_by : List ℕ → Option (ℕ × List ℕ) → Wanted
asked_by file expected = at_once (about_book_of file (option_map Some expected))

asks_of_expected : (program file expected : List ℕ) → asked (expecting program file expected) ≡ asked_by file (expected_named expected)
unfolding clap_on_literals
asks_of_expected program file expected = refl

no_file : (program : List ℕ) → objections (program ∷ codes "book" ∷ []) ≡ MissingRequiredArgument ∷ []
unfolding clap_on_literals
no_file program = refl

pub returns-clause-taken : goal.returns-clause-taken
returns-clause-taken c = λ program file. (no_objection program file, asks program file)

pub returns-clause-expected : goal.returns-clause-expected
returns-clause-expected c = λ program file expected facts digest named.
    (no_objection_to_expected program file expected, asks_of_expected program file expected ∙ ap (asked_by file) named)

pub returns-clause-plain : goal.returns-clause-plain
returns-clause-plain c = λ program file. (no_plain_objection program file, asks_plainly program file)

pub returns-clause-needs_facts : goal.returns-clause-needs_facts
returns-clause-needs_facts c = λ program file expected none.
    (no_objection_to_expected program file expected, asks_of_expected program file expected ∙ ap (asked_by file) none)

pub returns-clause-needs_a_file : goal.returns-clause-needs_a_file
returns-clause-needs_a_file c = no_file

pub returns-clause-named : goal.returns-clause-named
returns-clause-named c = expected_is_named

pub returns-clause-text : goal.returns-clause-text
returns-clause-text c = expected_is_its_text

use Rattle.std.proofs.Common.{◌≡◌, ◌∙◌, ap, codes, decimal, arith, List, [], ◌∷◌, ℕ, Option, Some, None, true, false, refl}
use Rattle.clap.proofs.OnLiterals.{clap_on_literals}
use Rattle.gi_command_line.specs.Asked.{Wanted, at_once, mistaken}
use Rattle.gi_command_line.specs.CommandLine.{asked, objections, service_of}
use Rattle.gi_command_line.specs.Laws.{serve_words, serves, serves_so, with_value}
use Rattle.gi_command_line.specs.Wait.{IsWait, most_wait, wait_named}
use Rattle.gi_command_line.proofs.Numerals.{number_is_its_text, number_is_named}
use Rattle.gi_command_line.proofs.laws.serve_is_taken.Goals as goal

no_objection : (program : List ℕ) → objections (serve_words program []) ≡ []
unfolding clap_on_literals
no_objection program = refl

asks : (program : List ℕ) → asked (serve_words program []) ≡ serves None 0 false
unfolding clap_on_literals
asks program = refl

abbrev waiting : List ℕ → List ℕ → List ℕ → List (List ℕ)
waiting program prefix wait = serve_words program (with_value (codes "books") prefix ∷ with_value (codes "wait") wait ∷ [])

no_objection_to_wait : (program prefix wait : List ℕ) → objections (waiting program prefix wait) ≡ []
unfolding clap_on_literals
no_objection_to_wait program prefix wait = refl

-- what is asked of a wait that is read so
abbrev asked_by : List ℕ → Option ℕ → Wanted
asked_by prefix wait = service_of (Some 2) wait (Some prefix) false false false

asks_to_wait : (program prefix wait : List ℕ) → asked (waiting program prefix wait) ≡ asked_by prefix (wait_named wait)
unfolding clap_on_literals
asks_to_wait program prefix wait = refl

no_objection_to_old : (program prefix : List ℕ) → objections (serve_words program (with_value (codes "books") prefix ∷ codes "--old" ∷ [])) ≡ []
unfolding clap_on_literals
no_objection_to_old program prefix = refl

asks_for_old : (program prefix : List ℕ) → asked (serve_words program (with_value (codes "books") prefix ∷ codes "--old" ∷ [])) ≡ serves (Some prefix) 0 true
unfolding clap_on_literals
asks_for_old program prefix = refl

no_objection_in_memory : (program : List ℕ) → objections (serve_words program (codes "--old" ∷ [])) ≡ []
unfolding clap_on_literals
no_objection_in_memory program = refl

asks_in_memory : (program : List ℕ) → asked (serve_words program (codes "--old" ∷ [])) ≡ serves None 0 true
unfolding clap_on_literals
asks_in_memory program = refl

no_objection_to_strict : (program : List ℕ) → objections (serve_words program (codes "--strict" ∷ [])) ≡ []
unfolding clap_on_literals
no_objection_to_strict program = refl

asks_strictly : (program : List ℕ) → asked (serve_words program (codes "--strict" ∷ [])) ≡ serves_so None 0 false false true
unfolding clap_on_literals
asks_strictly program = refl

no_objection_to_dry : (program prefix : List ℕ) → objections (serve_words program (with_value (codes "books") prefix ∷ codes "--dry-run" ∷ [])) ≡ []
unfolding clap_on_literals
no_objection_to_dry program prefix = refl

asks_dry : (program prefix : List ℕ) → asked (serve_words program (with_value (codes "books") prefix ∷ codes "--dry-run" ∷ [])) ≡ serves_so (Some prefix) 0 false true false
unfolding clap_on_literals
asks_dry program prefix = refl

no_objection_to_dry_of_old : (program prefix : List ℕ) → objections (serve_words program (codes "--old" ∷ codes "--dry-run" ∷ with_value (codes "books") prefix ∷ [])) ≡ []
unfolding clap_on_literals
no_objection_to_dry_of_old program prefix = refl

asks_dry_of_old : (program prefix : List ℕ) → asked (serve_words program (codes "--old" ∷ codes "--dry-run" ∷ with_value (codes "books") prefix ∷ [])) ≡ serves_so (Some prefix) 0 true true false
unfolding clap_on_literals
asks_dry_of_old program prefix = refl

no_objection_to_dry_of_none : (program : List ℕ) → objections (serve_words program (codes "--dry-run" ∷ [])) ≡ []
unfolding clap_on_literals
no_objection_to_dry_of_none program = refl

asks_dry_of_none : (program : List ℕ) → asked (serve_words program (codes "--dry-run" ∷ [])) ≡ at_once mistaken
unfolding clap_on_literals
asks_dry_of_none program = refl

wait_is_named : (seconds : ℕ) → IsWait seconds → wait_named (decimal seconds) ≡ Some seconds
unfolding wait_named
wait_is_named seconds low = number_is_named most_wait seconds low (omega arith)

wait_is_its_text : (word : List ℕ) (seconds : ℕ) → wait_named word ≡ Some seconds → (word ≡ decimal seconds) × IsWait seconds
unfolding wait_named
wait_is_its_text word seconds named = number_is_its_text most_wait word seconds (omega arith) named

pub returns-clause-plain : goal.returns-clause-plain
returns-clause-plain c = λ program. (no_objection program, asks program)

pub returns-clause-waits : goal.returns-clause-waits
returns-clause-waits c = λ program prefix wait seconds named.
    (no_objection_to_wait program prefix wait, asks_to_wait program prefix wait ∙ ap (asked_by prefix) named)

pub returns-clause-needs_seconds : goal.returns-clause-needs_seconds
returns-clause-needs_seconds c = λ program prefix wait none.
    (no_objection_to_wait program prefix wait, asks_to_wait program prefix wait ∙ ap (asked_by prefix) none)

pub returns-clause-old : goal.returns-clause-old
returns-clause-old c = λ program prefix. (no_objection_to_old program prefix, asks_for_old program prefix)

pub returns-clause-old_in_memory : goal.returns-clause-old_in_memory
returns-clause-old_in_memory c = λ program. (no_objection_in_memory program, asks_in_memory program)

pub returns-clause-dry : goal.returns-clause-dry
returns-clause-dry c = λ program prefix. (no_objection_to_dry program prefix, asks_dry program prefix)

pub returns-clause-dry_of_old : goal.returns-clause-dry_of_old
returns-clause-dry_of_old c = λ program prefix. (no_objection_to_dry_of_old program prefix, asks_dry_of_old program prefix)

pub returns-clause-dry_needs_books : goal.returns-clause-dry_needs_books
returns-clause-dry_needs_books c = λ program. (no_objection_to_dry_of_none program, asks_dry_of_none program)

pub returns-clause-strict : goal.returns-clause-strict
returns-clause-strict c = λ program. (no_objection_to_strict program, asks_strictly program)

pub returns-clause-named : goal.returns-clause-named
returns-clause-named c = wait_is_named

pub returns-clause-text : goal.returns-clause-text
returns-clause-text c = wait_is_its_text

use Rattle.std.proofs.Common.{◌≡◌, ◌∙◌, ap, codes, List, [], ◌∷◌, ℕ, inl, inr, refl}
use Rattle.clap.proofs.OnLiterals.{clap_on_literals}
use Rattle.clap.specs.declared.error.kind.ErrorKind.TheVariants.{MissingRequiredArgument}
use Rattle.gi_command_line.specs.Asked.{at_once, hours}
use Rattle.gi_command_line.specs.CommandLine.{MeansHours, asked, objections}
use Rattle.gi_command_line.proofs.laws.hours_is_taken.Goals as goal

abbrev words_of : List ℕ → List ℕ → List (List ℕ)
words_of program day = program ∷ codes "hours" ∷ day ∷ []

none_of_1 : (program rest : List ℕ) → objections (words_of program (49 ∷ rest)) ≡ []
unfolding clap_on_literals
none_of_1 program rest = refl

none_of_2 : (program rest : List ℕ) → objections (words_of program (50 ∷ rest)) ≡ []
unfolding clap_on_literals
none_of_2 program rest = refl

asks_1 : (program rest : List ℕ) → asked (words_of program (49 ∷ rest)) ≡ at_once (hours (49 ∷ rest))
unfolding clap_on_literals
asks_1 program rest = refl

asks_2 : (program rest : List ℕ) → asked (words_of program (50 ∷ rest)) ≡ at_once (hours (50 ∷ rest))
unfolding clap_on_literals
asks_2 program rest = refl

abbrev IsTaken : List (List ℕ) → List ℕ → Type 0
IsTaken words day = (objections words ≡ []) × (asked words ≡ at_once (hours day))

taken : (words : List (List ℕ)) (day : List ℕ) → MeansHours words day → IsTaken words day
taken words day (program, rest, inl one, are) =
    let same : words ≡ words_of program (49 ∷ rest) = are ∙ ap (words_of program) one in
    rw (same, one) (none_of_1 program rest, asks_1 program rest)
taken words day (program, rest, inr two, are) =
    let same : words ≡ words_of program (50 ∷ rest) = are ∙ ap (words_of program) two in
    rw (same, two) (none_of_2 program rest, asks_2 program rest)

missing : (program : List ℕ) → objections (program ∷ codes "hours" ∷ []) ≡ MissingRequiredArgument ∷ []
unfolding clap_on_literals
missing program = refl

pub returns-clause-taken : goal.returns-clause-taken
returns-clause-taken c = taken

pub returns-clause-needs_a_day : goal.returns-clause-needs_a_day
returns-clause-needs_a_day c = missing

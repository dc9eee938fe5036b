use Rattle.std.proofs.Common.{◌≡◌, ◌∙◌, Err, ap, rules, sym, refl, subst, map, List, ℕ, true}
use Rattle.clap.specs.Words.{App, HasKind, app_of, fault_of, is_simple as is_simple_app, is_simple_and_free, subcommand_of}
use Rattle.clap.specs.declared.error.Error.{Error}
use Rattle.clap.proofs.OnLiterals.{clap_on_literals}
use Rattle.gi_command_line.specs.CommandLine.{asked_of, objections, the_program}
use Rattle.gi_command_line.proofs.words.requested.Goals as goal

is_simple : is_simple_and_free the_program ≡ true
unfolding clap_on_literals
is_simple = refl

is_plain : is_simple_app the_program ≡ true
unfolding clap_on_literals
is_plain = refl

-- what is objected to is told of the program's own commands
told : (a : App) → a ≡ the_program → (words : List (List ℕ)) (said : Error) → (is_simple_and_free a ≡ true → HasKind (fault_of a words) said)
    → HasKind (objections words) said
told a same words said kinds = subst (λ (b : App). HasKind (fault_of b words) said) same (kinds (ap is_simple_and_free same ∙ is_simple))

pub returns-in_err-matches-clause-refused : goal.returns-in_err-matches-clause-refused
returns-in_err-matches-clause-refused g c =
    let kinds = told _ c.in_ok-program.ensures (map g.S.AsStr.text c.args.words.now) c.in_err-matches.field-0.0 c.in_err-matches.ensures.kinds in
    let fails : c.from_residual-in_err-matches.result ≡ Err c.in_err-matches.field-0.0 = search rules in
    rw fails kinds

pub returns-clause-refused : goal.returns-clause-refused
returns-clause-refused g c =
    let words : List (List ℕ) = map g.S.AsStr.text c.args.words.now in
    let program_is : app_of c.in_ok-program.program ≡ the_program = c.in_ok-program.ensures in
    ap (λ (a : App). fault_of a words) (sym program_is)
    ∙ c.in_ok-matches.ensures.kinds (ap is_simple_and_free program_is ∙ is_simple)

pub returns-clause-asked : goal.returns-clause-asked
returns-clause-asked g c =
    let words : List (List ℕ) = map g.S.AsStr.text c.args.words.now in
    let program_is : app_of c.in_ok-program.program ≡ the_program = c.in_ok-program.ensures in
    let entered = (c.in_ok-matches.ensures.matches (ap is_simple_app program_is ∙ is_plain)).1 in
    c.task_of.ensures ∙ ap asked_of (entered ∙ ap (λ (a : App). subcommand_of a words) program_is)

use Rattle.std.proofs.Common.{◌≡◌, ◌++◌, ◌∙◌, ap, codes, List, [], ◌∷◌, ℕ, Option, None, Some, refl}
use Rattle.clap.proofs.OnLiterals.{clap_on_literals}
use Rattle.clap.specs.Words.{Row, subcommand_of}
use Rattle.clap.specs.declared.error.kind.ErrorKind.TheVariants.{MissingRequiredArgument}
use Rattle.gi_command_line.specs.CommandLine.{Entered, asked, audit_of, objections, the_program}
use Rattle.gi_command_line.specs.Asked.{Wanted, at_once, audit}
use Rattle.gi_command_line.specs.Laws.{audit_in_words, audit_words, audit_words_in, with_value}
use Rattle.gi_command_line.specs.ReportWords.{line_format_named, line_format_text}
use Rattle.gi_command_line.specs.declared.request.LineFormat.{LineFormat}
use Rattle.gi_command_line.specs.declared.request.LineFormat.TheVariants as line
use Rattle.gi_command_line.proofs.laws.audit_is_taken.Goals as goal

no_objection : (program initiating matching point : List ℕ) → objections (audit_words program initiating matching point) ≡ []
unfolding clap_on_literals
no_objection program initiating matching point = refl

asks : (program initiating matching point : List ℕ) → asked (audit_words program initiating matching point) ≡ at_once (audit line.Text initiating matching point)
unfolding clap_on_literals
asks program initiating matching point = refl

no_objection_in_words : (program initiating matching point : List ℕ) → objections (audit_in_words program initiating matching point) ≡ []
unfolding clap_on_literals
no_objection_in_words program initiating matching point = refl

asks_in_words : (program initiating matching point : List ℕ) → asked (audit_in_words program initiating matching point) ≡ at_once (audit line.Text (codes "day" ++ initiating) (codes "day" ++ matching) (codes "BORDER" ++ point))
unfolding clap_on_literals
asks_in_words program initiating matching point = refl

no_objection_to_format : (program initiating matching point : List ℕ) (format : LineFormat) → objections (audit_words_in program initiating matching point (codes "--format" ∷ line_format_text format ∷ [])) ≡ []
unfolding clap_on_literals
no_objection_to_format program initiating matching point line.Text = refl
no_objection_to_format program initiating matching point line.Json = refl

asks_in_format : (program initiating matching point : List ℕ) (format : LineFormat) → asked (audit_words_in program initiating matching point (codes "--format" ∷ line_format_text format ∷ [])) ≡ at_once (audit format initiating matching point)
unfolding clap_on_literals
asks_in_format program initiating matching point line.Text = refl
asks_in_format program initiating matching point line.Json = refl

no_objection_to_any_format : (program initiating matching point format : List ℕ) → objections (audit_words_in program initiating matching point (with_value (codes "format") format ∷ [])) ≡ []
unfolding clap_on_literals
no_objection_to_any_format program initiating matching point format = refl

abbrev rows_in : Entered → List Row
rows_in None = []
rows_in (Some entered) = entered.1

-- what is asked of the values of these words, in a format that is read so
abbrev asked_by : (program initiating matching point format : List ℕ) → Option LineFormat → Wanted
asked_by program initiating matching point format read =
    at_once (audit_of (rows_in (subcommand_of the_program (audit_words_in program initiating matching point (with_value (codes "format") format ∷ [])))) read)

asks_in_any_format : (program initiating matching point format : List ℕ) → asked (audit_words_in program initiating matching point (with_value (codes "format") format ∷ [])) ≡ asked_by program initiating matching point format (line_format_named format)
unfolding clap_on_literals
asks_in_any_format program initiating matching point format = refl

one_book : (program initiating point : List ℕ) → objections (program ∷ codes "audit" ∷ with_value (codes "initiating") initiating ∷ with_value (codes "point") point ∷ []) ≡ MissingRequiredArgument ∷ []
unfolding clap_on_literals
one_book program initiating point = refl

pub returns-clause-taken : goal.returns-clause-taken
returns-clause-taken c = λ program initiating matching point. (no_objection program initiating matching point, asks program initiating matching point)

pub returns-clause-in_words : goal.returns-clause-in_words
returns-clause-in_words c = λ program initiating matching point. (no_objection_in_words program initiating matching point, asks_in_words program initiating matching point)

pub returns-clause-needs_both : goal.returns-clause-needs_both
returns-clause-needs_both c = one_book

pub returns-clause-format : goal.returns-clause-format
returns-clause-format c = λ program initiating matching point format. (no_objection_to_format program initiating matching point format, asks_in_format program initiating matching point format)

pub returns-clause-needs_a_format : goal.returns-clause-needs_a_format
returns-clause-needs_a_format c = λ program initiating matching point format none. (
  no_objection_to_any_format program initiating matching point format,
  asks_in_any_format program initiating matching point format ∙ ap (asked_by program initiating matching point format) none,
)

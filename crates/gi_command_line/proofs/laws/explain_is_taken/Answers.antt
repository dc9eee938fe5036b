use Rattle.std.proofs.Common.{◌≡◌, ◌∙◌, ap, codes, List, [], ◌∷◌, ℕ, Option, Some, None, refl}
use Rattle.clap.proofs.OnLiterals.{clap_on_literals}
use Rattle.clap.specs.declared.error.kind.ErrorKind.TheVariants.{MissingRequiredArgument}
use Rattle.gi_pairs.specs.Side.{side_named, side_text}
use Rattle.gi_pairs.specs.declared.side.Side.{Side}
use Rattle.gi_pairs.specs.declared.side.Side.TheVariants.{I, M}
use Rattle.gi_command_line.specs.CommandLine.{asked, explain_of, objections}
use Rattle.gi_pairs.specs.Direction.{direction_named, direction_text}
use Rattle.gi_pairs.specs.declared.direction.Direction.{Direction}
use Rattle.gi_pairs.specs.declared.direction.Direction.TheVariants.{IM, MI}
use Rattle.gi_command_line.specs.Asked.{QuantityWords, Wanted, at_once, explain, mistaken}
use Rattle.gi_command_line.specs.Laws.{book_words, explain_words, quantity, quantity_texts, with_value}
use Rattle.gi_command_line.specs.Numbers.{cycle_named, hour_named}
use Rattle.gi_command_line.specs.ReportWords.{line_format_named, line_format_text}
use Rattle.gi_command_line.specs.declared.request.LineFormat.{LineFormat}
use Rattle.gi_command_line.specs.declared.request.LineFormat.TheVariants as line
use Rattle.gi_command_line.proofs.laws.explain_is_taken.Goals as goal

no_objection : (program initiating matching day cycle hour : List ℕ) (side : Side) (direction : Direction) → objections (explain_words program [] (quantity_texts side direction initiating matching day cycle hour)) ≡ []
unfolding clap_on_literals side_named
no_objection program initiating matching day cycle hour I IM = refl
no_objection program initiating matching day cycle hour I MI = refl
no_objection program initiating matching day cycle hour M IM = refl
no_objection program initiating matching day cycle hour M MI = refl

no_objection_to_book : (program file point initiating matching day cycle hour : List ℕ) (side : Side) (direction : Direction) → objections (explain_words program (book_words file point) (quantity_texts side direction initiating matching day cycle hour)) ≡ []
unfolding clap_on_literals side_named
no_objection_to_book program file point initiating matching day cycle hour I IM = refl
no_objection_to_book program file point initiating matching day cycle hour I MI = refl
no_objection_to_book program file point initiating matching day cycle hour M IM = refl
no_objection_to_book program file point initiating matching day cycle hour M MI = refl

-- what is asked of a quantity whose cycle and hour are read so
abbrev named_by : (ℕ → ℕ → QuantityWords) → Option ℕ → Option ℕ → Option QuantityWords
named_by named None hour = None
named_by named (Some cycle) None = None
named_by named (Some cycle) (Some hour) = Some (named cycle hour)

abbrev asked_by : Side → Option LineFormat → Option (List ℕ × List ℕ) → (ℕ → ℕ → QuantityWords) → Option ℕ → Option ℕ → Wanted
asked_by side format book named cycle hour = at_once (explain_of (Some side) (named_by named cycle hour) format (Some book))

asks : (program initiating matching day cycle hour : List ℕ) (side : Side) (direction : Direction)
    → asked (explain_words program [] (quantity_texts side direction initiating matching day cycle hour)) ≡ asked_by side (Some line.Text) None (quantity direction initiating matching day) (cycle_named cycle) (hour_named hour)
unfolding clap_on_literals side_named direction_named
asks program initiating matching day cycle hour I IM = refl
asks program initiating matching day cycle hour I MI = refl
asks program initiating matching day cycle hour M IM = refl
asks program initiating matching day cycle hour M MI = refl

asks_of_book : (program file point initiating matching day cycle hour : List ℕ) (side : Side) (direction : Direction)
    → asked (explain_words program (book_words file point) (quantity_texts side direction initiating matching day cycle hour)) ≡ asked_by side (Some line.Text) (Some (file, point)) (quantity direction initiating matching day) (cycle_named cycle) (hour_named hour)
unfolding clap_on_literals side_named direction_named
asks_of_book program file point initiating matching day cycle hour I IM = refl
asks_of_book program file point initiating matching day cycle hour I MI = refl
asks_of_book program file point initiating matching day cycle hour M IM = refl
asks_of_book program file point initiating matching day cycle hour M MI = refl

read_so : (side : Side) (format : LineFormat) (book : Option (List ℕ × List ℕ)) (named : ℕ → ℕ → QuantityWords) (cycle hour : Option ℕ) (k h : ℕ) → cycle ≡ Some k → hour ≡ Some h
    → asked_by side (Some format) book named cycle hour ≡ at_once (explain format side (named k h) book)
read_so side format book named cycle hour k h of_cycle of_hour =
    ap (λ (read : Option ℕ). asked_by side (Some format) book named read hour) of_cycle ∙ ap (λ (read : Option ℕ). asked_by side (Some format) book named (Some k) read) of_hour

no_cycle : (side : Side) (format : LineFormat) (book : Option (List ℕ × List ℕ)) (named : ℕ → ℕ → QuantityWords) (cycle hour : Option ℕ) → cycle ≡ None → asked_by side (Some format) book named cycle hour ≡ at_once mistaken
no_cycle side format book named cycle hour none = ap (λ (read : Option ℕ). asked_by side (Some format) book named read hour) none

hour_is_none : (side : Side) (format : LineFormat) (book : Option (List ℕ × List ℕ)) (named : ℕ → ℕ → QuantityWords) (cycle : Option ℕ) → asked_by side (Some format) book named cycle None ≡ at_once mistaken
hour_is_none side format book named None = refl
hour_is_none side format book named (Some k) = refl

no_hour_named : (side : Side) (format : LineFormat) (book : Option (List ℕ × List ℕ)) (named : ℕ → ℕ → QuantityWords) (cycle hour : Option ℕ) → hour ≡ None → asked_by side (Some format) book named cycle hour ≡ at_once mistaken
no_hour_named side format book named cycle hour none = ap (λ (read : Option ℕ). asked_by side (Some format) book named cycle read) none ∙ hour_is_none side format book named cycle

no_plain_objection : (program a b day : List ℕ) (side : Side) (direction : Direction) → objections (program ∷ codes "explain" ∷ quantity_texts side direction (65 ∷ a) (66 ∷ b) (50 ∷ day) (codes "35") (codes "24")) ≡ []
unfolding clap_on_literals side_named
no_plain_objection program a b day I IM = refl
no_plain_objection program a b day I MI = refl
no_plain_objection program a b day M IM = refl
no_plain_objection program a b day M MI = refl

asks_plainly : (program a b day : List ℕ) (side : Side) (direction : Direction) → asked (program ∷ codes "explain" ∷ quantity_texts side direction (65 ∷ a) (66 ∷ b) (50 ∷ day) (codes "35") (codes "24")) ≡ at_once (explain line.Text side (quantity direction (65 ∷ a) (66 ∷ b) (50 ∷ day) 35 24) None)
unfolding clap_on_literals side_named direction_named cycle_named hour_named
asks_plainly program a b day I IM = refl
asks_plainly program a b day I MI = refl
asks_plainly program a b day M IM = refl
asks_plainly program a b day M MI = refl

no_hour : (program initiating matching day cycle : List ℕ) (side : Side) (direction : Direction) → objections (explain_words program [] (side_text side ∷ initiating ∷ matching ∷ direction_text direction ∷ day ∷ cycle ∷ [])) ≡ MissingRequiredArgument ∷ []
unfolding clap_on_literals side_named
no_hour program initiating matching day cycle I IM = refl
no_hour program initiating matching day cycle I MI = refl
no_hour program initiating matching day cycle M IM = refl
no_hour program initiating matching day cycle M MI = refl

no_objection_to_format : (program initiating matching day cycle hour : List ℕ) (side : Side) (direction : Direction) (format : LineFormat) → objections (explain_words program (codes "--format" ∷ line_format_text format ∷ []) (quantity_texts side direction initiating matching day cycle hour)) ≡ []
unfolding clap_on_literals side_named
no_objection_to_format program initiating matching day cycle hour I IM line.Text = refl
no_objection_to_format program initiating matching day cycle hour I IM line.Json = refl
no_objection_to_format program initiating matching day cycle hour I MI line.Text = refl
no_objection_to_format program initiating matching day cycle hour I MI line.Json = refl
no_objection_to_format program initiating matching day cycle hour M IM line.Text = refl
no_objection_to_format program initiating matching day cycle hour M IM line.Json = refl
no_objection_to_format program initiating matching day cycle hour M MI line.Text = refl
no_objection_to_format program initiating matching day cycle hour M MI line.Json = refl

asks_in_format : (program initiating matching day cycle hour : List ℕ) (side : Side) (direction : Direction) (format : LineFormat)
    → asked (explain_words program (codes "--format" ∷ line_format_text format ∷ []) (quantity_texts side direction initiating matching day cycle hour)) ≡ asked_by side (Some format) None (quantity direction initiating matching day) (cycle_named cycle) (hour_named hour)
unfolding clap_on_literals side_named direction_named
asks_in_format program initiating matching day cycle hour I IM line.Text = refl
asks_in_format program initiating matching day cycle hour I IM line.Json = refl
asks_in_format program initiating matching day cycle hour I MI line.Text = refl
asks_in_format program initiating matching day cycle hour I MI line.Json = refl
asks_in_format program initiating matching day cycle hour M IM line.Text = refl
asks_in_format program initiating matching day cycle hour M IM line.Json = refl
asks_in_format program initiating matching day cycle hour M MI line.Text = refl
asks_in_format program initiating matching day cycle hour M MI line.Json = refl

no_objection_to_any_format : (program initiating matching day cycle hour format : List ℕ) (side : Side) (direction : Direction) → objections (explain_words program (with_value (codes "format") format ∷ []) (quantity_texts side direction initiating matching day cycle hour)) ≡ []
unfolding clap_on_literals side_named
no_objection_to_any_format program initiating matching day cycle hour format I IM = refl
no_objection_to_any_format program initiating matching day cycle hour format I MI = refl
no_objection_to_any_format program initiating matching day cycle hour format M IM = refl
no_objection_to_any_format program initiating matching day cycle hour format M MI = refl

asks_in_any_format : (program initiating matching day cycle hour format : List ℕ) (side : Side) (direction : Direction)
    → asked (explain_words program (with_value (codes "format") format ∷ []) (quantity_texts side direction initiating matching day cycle hour)) ≡ asked_by side (line_format_named format) None (quantity direction initiating matching day) (cycle_named cycle) (hour_named hour)
unfolding clap_on_literals side_named direction_named
asks_in_any_format program initiating matching day cycle hour format I IM = refl
asks_in_any_format program initiating matching day cycle hour format I MI = refl
asks_in_any_format program initiating matching day cycle hour format M IM = refl
asks_in_any_format program initiating matching day cycle hour format M MI = refl

no_format : (side : Side) (book : Option (List ℕ × List ℕ)) (named : ℕ → ℕ → QuantityWords) (cycle hour : Option ℕ) → asked_by side None book named cycle hour ≡ at_once mistaken
no_format side book named None hour = refl
no_format side book named (Some k) None = refl
no_format side book named (Some k) (Some h) = refl

no_format_named : (side : Side) (format : Option LineFormat) (book : Option (List ℕ × List ℕ)) (named : ℕ → ℕ → QuantityWords) (cycle hour : Option ℕ) → format ≡ None
    → asked_by side format book named cycle hour ≡ at_once mistaken
no_format_named side format book named cycle hour none =
    ap (λ (read : Option LineFormat). asked_by side read book named cycle hour) none ∙ no_format side book named cycle hour

pub returns-clause-of_script : goal.returns-clause-of_script
returns-clause-of_script c = λ program initiating matching day cycle hour side direction k h of_cycle of_hour. (
  no_objection program initiating matching day cycle hour side direction,
  asks program initiating matching day cycle hour side direction ∙ read_so side line.Text None (quantity direction initiating matching day) (cycle_named cycle) (hour_named hour) k h of_cycle of_hour,
)

pub returns-clause-of_book : goal.returns-clause-of_book
returns-clause-of_book c = λ program file point initiating matching day cycle hour side direction k h of_cycle of_hour. (
  no_objection_to_book program file point initiating matching day cycle hour side direction,
  asks_of_book program file point initiating matching day cycle hour side direction ∙ read_so side line.Text (Some (file, point)) (quantity direction initiating matching day) (cycle_named cycle) (hour_named hour) k h of_cycle of_hour,
)

pub returns-clause-needs_a_cycle : goal.returns-clause-needs_a_cycle
returns-clause-needs_a_cycle c = λ program initiating matching day cycle hour side direction none. (
  no_objection program initiating matching day cycle hour side direction,
  asks program initiating matching day cycle hour side direction ∙ no_cycle side line.Text None (quantity direction initiating matching day) (cycle_named cycle) (hour_named hour) none,
)

pub returns-clause-needs_an_hour : goal.returns-clause-needs_an_hour
returns-clause-needs_an_hour c = λ program initiating matching day cycle hour side direction none. (
  no_objection program initiating matching day cycle hour side direction,
  asks program initiating matching day cycle hour side direction ∙ no_hour_named side line.Text None (quantity direction initiating matching day) (cycle_named cycle) (hour_named hour) none,
)

pub returns-clause-plain : goal.returns-clause-plain
returns-clause-plain c = λ program a b day side direction. (no_plain_objection program a b day side direction, asks_plainly program a b day side direction)

pub returns-clause-missing : goal.returns-clause-missing
returns-clause-missing c = no_hour

pub returns-clause-format : goal.returns-clause-format
returns-clause-format c = λ program initiating matching day cycle hour side direction k h format of_cycle of_hour. (
  no_objection_to_format program initiating matching day cycle hour side direction format,
  asks_in_format program initiating matching day cycle hour side direction format ∙ read_so side format None (quantity direction initiating matching day) (cycle_named cycle) (hour_named hour) k h of_cycle of_hour,
)

pub returns-clause-needs_a_format : goal.returns-clause-needs_a_format
returns-clause-needs_a_format c = λ program initiating matching day cycle hour format side direction none. (
  no_objection_to_any_format program initiating matching day cycle hour format side direction,
  asks_in_any_format program initiating matching day cycle hour format side direction ∙ no_format_named side (line_format_named format) None (quantity direction initiating matching day) (cycle_named cycle) (hour_named hour) none,
)

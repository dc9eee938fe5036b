use Rattle.std.proofs.Common.{◌≡◌, ◌++◌, codes, List, [], ◌∷◌, ℕ, Some, None, true, false, true≢false, sym, refl}
use Rattle.clap.proofs.OnLiterals.{clap_on_literals}
use Rattle.clap.specs.declared.error.kind.ErrorKind.TheVariants.{MissingRequiredArgument}
use Rattle.gi_pairs.specs.Side.{side_named}
use Rattle.gi_pairs.specs.declared.side.Side.{Side}
use Rattle.gi_pairs.specs.declared.side.Side.TheVariants.{I, M}
use Rattle.gi_command_line.specs.CommandLine.{asked, objections}
use Rattle.gi_command_line.specs.Asked.{at_once, mistaken, report}
use Rattle.gi_command_line.specs.Laws.{book_in_words, book_words, narrowing_options, not_narrowed, report_words, with_value}
use Rattle.gi_command_line.specs.ReportWords.{can_be_narrowed, format_text, kind_text}
use Rattle.gi_command_line.specs.declared.request.Format.{Format}
use Rattle.gi_command_line.specs.declared.request.Format.TheVariants.{Text, Csv, Json}
use Rattle.gi_command_line.specs.declared.request.ReportKind.{ReportKind}
use Rattle.gi_command_line.specs.declared.request.ReportKind.TheVariants.{Open, Confirmed, Refused, Schedule, Cut, Changes}
use Rattle.gi_command_line.proofs.laws.report_is_taken.Goals as goal

no_objection : (program : List ℕ) (kind : ReportKind) (side : Side) → objections (report_words program kind side []) ≡ []
unfolding clap_on_literals side_named
no_objection program Open I = refl
no_objection program Open M = refl
no_objection program Confirmed I = refl
no_objection program Confirmed M = refl
no_objection program Refused I = refl
no_objection program Refused M = refl
no_objection program Schedule I = refl
no_objection program Schedule M = refl
no_objection program Cut I = refl
no_objection program Changes I = refl
no_objection program Cut M = refl
no_objection program Changes M = refl

asks : (program : List ℕ) (kind : ReportKind) (side : Side) → asked (report_words program kind side []) ≡ at_once (report kind Text side not_narrowed None)
unfolding clap_on_literals side_named
asks program Open I = refl
asks program Open M = refl
asks program Confirmed I = refl
asks program Confirmed M = refl
asks program Refused I = refl
asks program Refused M = refl
asks program Schedule I = refl
asks program Schedule M = refl
asks program Cut I = refl
asks program Changes I = refl
asks program Cut M = refl
asks program Changes M = refl

no_objection_to_format : (program : List ℕ) (kind : ReportKind) (side : Side) (format : Format) → objections (report_words program kind side (codes "--format" ∷ format_text format ∷ [])) ≡ []
unfolding clap_on_literals side_named
no_objection_to_format program Open I Text = refl
no_objection_to_format program Open I Csv = refl
no_objection_to_format program Open I Json = refl
no_objection_to_format program Open M Text = refl
no_objection_to_format program Open M Csv = refl
no_objection_to_format program Open M Json = refl
no_objection_to_format program Confirmed I Text = refl
no_objection_to_format program Confirmed I Csv = refl
no_objection_to_format program Confirmed I Json = refl
no_objection_to_format program Confirmed M Text = refl
no_objection_to_format program Confirmed M Csv = refl
no_objection_to_format program Confirmed M Json = refl
no_objection_to_format program Refused I Text = refl
no_objection_to_format program Refused I Csv = refl
no_objection_to_format program Refused I Json = refl
no_objection_to_format program Refused M Text = refl
no_objection_to_format program Refused M Csv = refl
no_objection_to_format program Refused M Json = refl
no_objection_to_format program Schedule I Text = refl
no_objection_to_format program Schedule I Csv = refl
no_objection_to_format program Schedule I Json = refl
no_objection_to_format program Schedule M Text = refl
no_objection_to_format program Schedule M Csv = refl
no_objection_to_format program Schedule M Json = refl
no_objection_to_format program Cut I Text = refl
no_objection_to_format program Changes I Text = refl
no_objection_to_format program Cut I Csv = refl
no_objection_to_format program Changes I Csv = refl
no_objection_to_format program Cut I Json = refl
no_objection_to_format program Changes I Json = refl
no_objection_to_format program Cut M Text = refl
no_objection_to_format program Changes M Text = refl
no_objection_to_format program Cut M Csv = refl
no_objection_to_format program Changes M Csv = refl
no_objection_to_format program Cut M Json = refl
no_objection_to_format program Changes M Json = refl

asks_in_format : (program : List ℕ) (kind : ReportKind) (side : Side) (format : Format) → asked (report_words program kind side (codes "--format" ∷ format_text format ∷ [])) ≡ at_once (report kind format side not_narrowed None)
unfolding clap_on_literals side_named
asks_in_format program Open I Text = refl
asks_in_format program Open I Csv = refl
asks_in_format program Open I Json = refl
asks_in_format program Open M Text = refl
asks_in_format program Open M Csv = refl
asks_in_format program Open M Json = refl
asks_in_format program Confirmed I Text = refl
asks_in_format program Confirmed I Csv = refl
asks_in_format program Confirmed I Json = refl
asks_in_format program Confirmed M Text = refl
asks_in_format program Confirmed M Csv = refl
asks_in_format program Confirmed M Json = refl
asks_in_format program Refused I Text = refl
asks_in_format program Refused I Csv = refl
asks_in_format program Refused I Json = refl
asks_in_format program Refused M Text = refl
asks_in_format program Refused M Csv = refl
asks_in_format program Refused M Json = refl
asks_in_format program Schedule I Text = refl
asks_in_format program Schedule I Csv = refl
asks_in_format program Schedule I Json = refl
asks_in_format program Schedule M Text = refl
asks_in_format program Schedule M Csv = refl
asks_in_format program Schedule M Json = refl
asks_in_format program Cut I Text = refl
asks_in_format program Changes I Text = refl
asks_in_format program Cut I Csv = refl
asks_in_format program Changes I Csv = refl
asks_in_format program Cut I Json = refl
asks_in_format program Changes I Json = refl
asks_in_format program Cut M Text = refl
asks_in_format program Changes M Text = refl
asks_in_format program Cut M Csv = refl
asks_in_format program Changes M Csv = refl
asks_in_format program Cut M Json = refl
asks_in_format program Changes M Json = refl

no_objection_to_book : (program file point : List ℕ) (kind : ReportKind) (side : Side) → objections (report_words program kind side (book_words file point)) ≡ []
unfolding clap_on_literals side_named
no_objection_to_book program file point Open I = refl
no_objection_to_book program file point Open M = refl
no_objection_to_book program file point Confirmed I = refl
no_objection_to_book program file point Confirmed M = refl
no_objection_to_book program file point Refused I = refl
no_objection_to_book program file point Refused M = refl
no_objection_to_book program file point Schedule I = refl
no_objection_to_book program file point Schedule M = refl
no_objection_to_book program file point Cut I = refl
no_objection_to_book program file point Changes I = refl
no_objection_to_book program file point Cut M = refl
no_objection_to_book program file point Changes M = refl

asks_of_book : (program file point : List ℕ) (kind : ReportKind) (side : Side) → asked (report_words program kind side (book_words file point)) ≡ at_once (report kind Text side not_narrowed (Some (file, point)))
unfolding clap_on_literals side_named
asks_of_book program file point Open I = refl
asks_of_book program file point Open M = refl
asks_of_book program file point Confirmed I = refl
asks_of_book program file point Confirmed M = refl
asks_of_book program file point Refused I = refl
asks_of_book program file point Refused M = refl
asks_of_book program file point Schedule I = refl
asks_of_book program file point Schedule M = refl
asks_of_book program file point Cut I = refl
asks_of_book program file point Changes I = refl
asks_of_book program file point Cut M = refl
asks_of_book program file point Changes M = refl

no_objection_in_words : (program file point : List ℕ) (kind : ReportKind) (side : Side) → objections (report_words program kind side (book_in_words file point)) ≡ []
unfolding clap_on_literals side_named
no_objection_in_words program file point Open I = refl
no_objection_in_words program file point Open M = refl
no_objection_in_words program file point Confirmed I = refl
no_objection_in_words program file point Confirmed M = refl
no_objection_in_words program file point Refused I = refl
no_objection_in_words program file point Refused M = refl
no_objection_in_words program file point Schedule I = refl
no_objection_in_words program file point Schedule M = refl
no_objection_in_words program file point Cut I = refl
no_objection_in_words program file point Changes I = refl
no_objection_in_words program file point Cut M = refl
no_objection_in_words program file point Changes M = refl

asks_in_words : (program file point : List ℕ) (kind : ReportKind) (side : Side) → asked (report_words program kind side (book_in_words file point)) ≡ at_once (report kind Text side not_narrowed (Some (codes "day" ++ file, codes "BORDER" ++ point)))
unfolding clap_on_literals side_named
asks_in_words program file point Open I = refl
asks_in_words program file point Open M = refl
asks_in_words program file point Confirmed I = refl
asks_in_words program file point Confirmed M = refl
asks_in_words program file point Refused I = refl
asks_in_words program file point Refused M = refl
asks_in_words program file point Schedule I = refl
asks_in_words program file point Schedule M = refl
asks_in_words program file point Cut I = refl
asks_in_words program file point Changes I = refl
asks_in_words program file point Cut M = refl
asks_in_words program file point Changes M = refl

no_side : (program : List ℕ) (kind : ReportKind) → objections (program ∷ codes "report" ∷ kind_text kind ∷ []) ≡ MissingRequiredArgument ∷ []
unfolding clap_on_literals side_named
no_side program Open = refl
no_side program Confirmed = refl
no_side program Refused = refl
no_side program Schedule = refl
no_side program Cut = refl
no_side program Changes = refl

no_objection_to_file : (program file : List ℕ) (kind : ReportKind) (side : Side) → objections (report_words program kind side (with_value (codes "book") file ∷ [])) ≡ []
unfolding clap_on_literals side_named
no_objection_to_file program file Open I = refl
no_objection_to_file program file Open M = refl
no_objection_to_file program file Confirmed I = refl
no_objection_to_file program file Confirmed M = refl
no_objection_to_file program file Refused I = refl
no_objection_to_file program file Refused M = refl
no_objection_to_file program file Schedule I = refl
no_objection_to_file program file Schedule M = refl
no_objection_to_file program file Cut I = refl
no_objection_to_file program file Changes I = refl
no_objection_to_file program file Cut M = refl
no_objection_to_file program file Changes M = refl

asks_in_wrong_words : (program file : List ℕ) (kind : ReportKind) (side : Side) → asked (report_words program kind side (with_value (codes "book") file ∷ [])) ≡ at_once mistaken
unfolding clap_on_literals side_named
asks_in_wrong_words program file Open I = refl
asks_in_wrong_words program file Open M = refl
asks_in_wrong_words program file Confirmed I = refl
asks_in_wrong_words program file Confirmed M = refl
asks_in_wrong_words program file Refused I = refl
asks_in_wrong_words program file Refused M = refl
asks_in_wrong_words program file Schedule I = refl
asks_in_wrong_words program file Schedule M = refl
asks_in_wrong_words program file Cut I = refl
asks_in_wrong_words program file Changes I = refl
asks_in_wrong_words program file Cut M = refl
asks_in_wrong_words program file Changes M = refl

no_objection_to_narrowing : (program day portfolio : List ℕ) (kind : ReportKind) (side : Side) → objections (report_words program kind side (narrowing_options day portfolio)) ≡ []
unfolding clap_on_literals side_named
no_objection_to_narrowing program day portfolio Open I = refl
no_objection_to_narrowing program day portfolio Open M = refl
no_objection_to_narrowing program day portfolio Confirmed I = refl
no_objection_to_narrowing program day portfolio Confirmed M = refl
no_objection_to_narrowing program day portfolio Refused I = refl
no_objection_to_narrowing program day portfolio Refused M = refl
no_objection_to_narrowing program day portfolio Schedule I = refl
no_objection_to_narrowing program day portfolio Schedule M = refl
no_objection_to_narrowing program day portfolio Cut I = refl
no_objection_to_narrowing program day portfolio Changes I = refl
no_objection_to_narrowing program day portfolio Cut M = refl
no_objection_to_narrowing program day portfolio Changes M = refl

asks_narrowed : (program day portfolio : List ℕ) (kind : ReportKind) (side : Side) → can_be_narrowed kind ≡ true
    → asked (report_words program kind side (narrowing_options day portfolio)) ≡ at_once (report kind Text side (record { day = Some day; portfolio = Some portfolio }) None)
unfolding clap_on_literals side_named
asks_narrowed program day portfolio Open side e = absurd (true≢false (sym e))
asks_narrowed program day portfolio Confirmed side e = absurd (true≢false (sym e))
asks_narrowed program day portfolio Refused side e = absurd (true≢false (sym e))
asks_narrowed program day portfolio Schedule I e = refl
asks_narrowed program day portfolio Schedule M e = refl
asks_narrowed program day portfolio Cut I e = refl
asks_narrowed program day portfolio Changes I e = refl
asks_narrowed program day portfolio Cut M e = refl
asks_narrowed program day portfolio Changes M e = refl

asks_wrongly : (program day portfolio : List ℕ) (kind : ReportKind) (side : Side) → can_be_narrowed kind ≡ false
    → asked (report_words program kind side (narrowing_options day portfolio)) ≡ at_once mistaken
unfolding clap_on_literals side_named
asks_wrongly program day portfolio Open I e = refl
asks_wrongly program day portfolio Open M e = refl
asks_wrongly program day portfolio Confirmed I e = refl
asks_wrongly program day portfolio Confirmed M e = refl
asks_wrongly program day portfolio Refused I e = refl
asks_wrongly program day portfolio Refused M e = refl
asks_wrongly program day portfolio Schedule side e = absurd (true≢false e)
asks_wrongly program day portfolio Cut side e = absurd (true≢false e)
asks_wrongly program day portfolio Changes side e = absurd (true≢false e)

pub returns-clause-narrowed : goal.returns-clause-narrowed
returns-clause-narrowed c = λ program day portfolio kind side can. (no_objection_to_narrowing program day portfolio kind side, asks_narrowed program day portfolio kind side can)

pub returns-clause-not_narrowed : goal.returns-clause-not_narrowed
returns-clause-not_narrowed c = λ program day portfolio kind side cannot. (no_objection_to_narrowing program day portfolio kind side, asks_wrongly program day portfolio kind side cannot)

pub returns-clause-plain : goal.returns-clause-plain
returns-clause-plain c = λ program kind side. (no_objection program kind side, asks program kind side)

pub returns-clause-format : goal.returns-clause-format
returns-clause-format c = λ program kind side format. (no_objection_to_format program kind side format, asks_in_format program kind side format)

pub returns-clause-book : goal.returns-clause-book
returns-clause-book c = λ program file point kind side. (no_objection_to_book program file point kind side, asks_of_book program file point kind side)

pub returns-clause-in_words : goal.returns-clause-in_words
returns-clause-in_words c = λ program file point kind side. (no_objection_in_words program file point kind side, asks_in_words program file point kind side)

pub returns-clause-needs_a_side : goal.returns-clause-needs_a_side
returns-clause-needs_a_side c = no_side

pub returns-clause-needs_its_point : goal.returns-clause-needs_its_point
returns-clause-needs_its_point c = λ program file kind side. (no_objection_to_file program file kind side, asks_in_wrong_words program file kind side)

-- What is processed of kept contracts, notices and nominations that read as the recorded ones is what is processed of those.
use Rattle.std.proofs.Common.{◌≡◌, ℕ, ◌-◌, List, map, sym, ◌∙◌}
use Rattle.std.specs.List.{flat_map, range_with_len}
use Rattle.std.specs.Str.{bytes_eq}
use Rattle.std.proofs.lemmas.List.Sorted.{list_any-IsPermutation}
use Rattle.jiff_core.specs.declared.civil.date.Date.{Date}
use Rattle.gi_pairs.specs.Pair.{pair_of}
use Rattle.gi_pairs.specs.Table.{covered, in_order}
use Rattle.gi_pairs.specs.declared.side.Side.{Side}
use Rattle.gi_messages.specs.declared.nomination_line.NominationLine.{NominationLine}
use Rattle.gi_messages.specs.declared.message.Nomint.{Nomint}
use Rattle.gi_nominations.specs.Book.{in_force}
use Rattle.gi_processing.specs.Capacity.{Capacity}
use Rattle.gi_processing.specs.Processing.{AreSound, lines_in_force, lines_of, portfolio_rows, processed, processed_in, processed_row, processed_rows, span_of}
use Rattle.gi_processing.specs.Readings.{ReadsAs}
use Rattle.gi_processing.specs.Recording.{portfolios_of}
use Rattle.gi_processing.specs.Reduction.{in_direction, part_by}
use Rattle.gi_processing.specs.declared.rule.Rule.{Rule}
use Rattle.gi_processing.specs.declared.span.Span.{Span}
use Rattle.gi_processing.proofs.PortfolioLaws.{portfolios_of-distinct}
use Rattle.gi_processing.proofs.RowOrder.{order-moved, rows-apart}
use Rattle.gi_processing.proofs.ReadingLaws.{reads-available, reads-knows, reads-portfolios}

-- the same nomination of each portfolio is in force on a day
abbrev pub SameInForce : List Nomint → List Nomint → Date → Type 0
SameInForce documents taken day = (portfolio : List ℕ) → in_force portfolio day documents ≡ in_force portfolio day taken

-- nominations are sound by what is kept where they are by what was recorded
pub reads-sound : (kept recorded : Capacity) (documents taken : List Nomint) (day : Date) → ReadsAs kept recorded → SameInForce documents taken day → AreSound recorded taken day → AreSound kept documents day
reads-sound kept recorded documents taken day reads same sound portfolio document e =
    let here = sound portfolio document (sym (same portfolio) ∙ e) in
    record {
      known = reads-knows kept recorded reads portfolio day ∙ here.known;
      lines = here.lines;
    }

row_same : (kept recorded : Capacity) (span : Span) (portfolio : List ℕ) (lines : List NominationLine) (line : NominationLine) → ReadsAs kept recorded
    → processed_row kept span portfolio lines line ≡ processed_row recorded span portfolio lines line
unfolding processed_row processed_in
row_same kept recorded span portfolio lines line reads =
    λ i. record {
      pair = pair_of span.side portfolio line.counterparty;
      direction = line.direction;
      hours = map (λ hour. part_by span.rule (reads-available kept recorded reads portfolio span.day line.direction hour i) (hour - 1) (in_direction line.direction lines) line) (range_with_len span.first (covered span.first span.last));
    }

-- the rows of a portfolio are the same
rows_same : (kept recorded : Capacity) (documents taken : List Nomint) (span : Span) (portfolio : List ℕ) → ReadsAs kept recorded → SameInForce documents taken span.day
    → portfolio_rows kept span documents portfolio ≡ portfolio_rows recorded span taken portfolio
unfolding portfolio_rows lines_in_force
rows_same kept recorded documents taken span portfolio reads same =
    λ i. map (λ line. row_same kept recorded span portfolio (lines_of (same portfolio i)) line reads i) (lines_of (same portfolio i))

-- So the processed table is the same: the rows are, portfolio by portfolio, and each portfolio has keys of its own.
pub reads-processed : (kept recorded : Capacity) (documents taken : List Nomint) (side : Side) (day : Date) (cycle : ℕ) (rule : Rule) → ReadsAs kept recorded → SameInForce documents taken day
    → processed kept documents side day cycle rule ≡ processed recorded taken side day cycle rule
unfolding processed
reads-processed kept recorded documents taken side day cycle rule reads same =
    let span = span_of side day cycle rule in
    let here = portfolios_of kept.contracts in
    let there = portfolios_of recorded.contracts in
    let order = order-moved (portfolio_rows kept span documents) (rows-apart kept span documents) here there (portfolios_of-distinct kept.contracts) (portfolios_of-distinct recorded.contracts)
    (λ r. list_any-IsPermutation (bytes_eq r) here there (reads-portfolios kept recorded reads)) in
    let rows : in_order (processed_rows kept span documents) ≡ in_order (processed_rows recorded span taken) =
    order ∙ (λ i. in_order (flat_map (λ p. rows_same kept recorded documents taken span p reads same i) there)) in
    λ i. record { first = span.first; last = span.last; rows = rows i }

-- The processed table is one.
use Rattle.std.proofs.Common.{◌≡◌, ℕ, ◌-◌, ◌<◌, ◌≤◌, ◌&&◌, List, [], ◌∷◌, length, map, find, slice_index, Option, Some, None, sum, Contains, inl, inr, nat_le, true, false, arith, refl, sym, ap, ◌∙◌, subst}
use Rattle.std.specs.Prelude.{◌↔◌}
use Rattle.std.specs.List.Sorted.{IsPermutation}
use Rattle.jiff_core.specs.declared.civil.date.Date.{Date}
use Rattle.std.proofs.lemmas.List.Sorted.{length_permutation, sum_by-IsPermutation}
use Rattle.std.proofs.lemmas.List.Sums.{sum-map}
use Rattle.std.proofs.lemmas.List.FromFn.{get_or-map-range_with_len}
use Rattle.gi_pairs.specs.Row.{key_of}
use Rattle.gi_pairs.specs.Direction.{place_of}
use Rattle.gi_pairs.specs.declared.direction.Direction.{Direction}
use Rattle.gi_pairs.specs.declared.direction.Direction.TheVariants.{IM, MI}
use Rattle.gi_pairs.specs.declared.key.Key.{Key}
use Rattle.gi_pairs.specs.declared.side.Side.{Side}
use Rattle.gi_pairs.specs.declared.row.Row.{Row}
use Rattle.gi_pairs.proofs.Building.{In, contains_from_in, in_from_contains, in_in_order, in_order_in}
use Rattle.gi_pairs.proofs.Members.{find_member, from_filter, from_map, in_filter, in_map}
use Rattle.gi_pairs.proofs.Reading.{reading-found}
use Rattle.gi_messages.specs.declared.nomination_line.NominationLine.{NominationLine}
use Rattle.gi_nominations.specs.Book.{in_force}
use Rattle.gi_nominations.specs.Lines.{has_twins}
use Rattle.std.proofs.lemmas.Bool.Decides.{Decides-eqb, nat_tests}
use Rattle.gi_pairs.specs.Limits.{most_processed_rows}
use Rattle.gi_pairs.specs.Pair.{pair_of}
use Rattle.gi_pairs.specs.Table.{TableContents, IsTable, covered, in_order, is_at, keys_of, reading}
use Rattle.gi_messages.specs.declared.message.Nomint.{Nomint}
use Rattle.gi_processing.specs.Capacity.{Capacity}
use Rattle.gi_processing.specs.CapacityLimits.{most_portfolios}
use Rattle.gi_processing.specs.Processing.{AreSound, CanProcess, IsInForce, IsLineKey, IsProcessed, IsSpan, available_to, left_to, line_key, lines_in_force, lines_of, ordered_lines, ordered_sharing, portfolio_rows, processed_in, processed_row, processed_rows, readings, span_of, span_table}
use Rattle.gi_processing.specs.Recording.{portfolios_of}
use Rattle.gi_processing.specs.Reduction.{IsReduction, by_counterparty, in_direction, is_in, part, part_by, quantity_at, sharing, total}
use Rattle.gi_processing.specs.declared.rule.Rule.{Rule}
use Rattle.gi_processing.specs.declared.span.Span.{Span}
use Rattle.gi_processing.proofs.Counterparties.{by_counterparty-permutation, in_by_counterparty}
use Rattle.gi_processing.proofs.PortfolioLaws.{known_in, portfolios_of-distinct}
use Rattle.gi_processing.proofs.PriorityLaws.{all_given, in_sharing, shares_itself, sharing_is, sharing_ordered}
use Rattle.gi_processing.proofs.ReductionLaws.{is_reduction, no_part_exceeds}
use Rattle.gi_processing.proofs.ProcessingRows.{in_flat_map, key_in_rows, key_of-row, lines_sound, rows-few}

pub kept_from : (capacity : Capacity) (documents : List Nomint) (span : Span) (portfolios : List (List ℕ)) → IsPermutation (portfolios_of capacity.contracts) portfolios
    → length portfolios ≤ most_portfolios → IsSpan span → AreSound capacity documents span.day → CanProcess capacity documents span
kept_from capacity documents span portfolios moved few hours sound = record {
  hours = hours;
  sound = sound;
  few = subst (λ n. n ≤ most_portfolios) (length_permutation (portfolios_of capacity.contracts) portfolios moved) few;
  distinct = portfolios_of-distinct capacity.contracts;
}

pub processed_rows-few : (capacity : Capacity) (documents : List Nomint) (span : Span) → CanProcess capacity documents span → length (processed_rows capacity span documents) ≤ most_processed_rows
processed_rows-few capacity documents span kept =
    omega (arith, rows-few capacity span documents (portfolios_of capacity.contracts) kept.sound, kept.few)

-- ---- what the table has, and reads

-- the table of a cycle, and what is asked of it
pub record IsMade (capacity : Capacity) (documents : List Nomint) (span : Span) (table : TableContents) : Type 0 where
  pub kept : CanProcess capacity documents span
  pub is_table : IsTable table
  pub is : table ≡ span_table capacity span documents

module _ (capacity : Capacity) (documents : List Nomint) (span : Span) (table : TableContents) (made : IsMade capacity documents span table) where
  rows_are : table.rows ≡ in_order (processed_rows capacity span documents)
  rows_are = ap (λ (t : TableContents). t.rows) made.is

  -- each key is for a line in force
  line_of : (key : Key) → In key (keys_of table.rows) → (portfolio : List ℕ) × (In portfolio (portfolios_of capacity.contracts)) × (line : NominationLine)
      × (In line (lines_in_force portfolio span.day documents)) × (line_key span.side portfolio line ≡ key)
  line_of key h =
      let row = from_map key_of key table.rows h in
      let there = in_in_order row.0 (processed_rows capacity span documents) (subst (λ (rows : List Row). In row.0 rows) rows_are row.1) in
      key_in_rows capacity span documents (portfolios_of capacity.contracts) key
      (subst (λ (k : Key). In k (keys_of (processed_rows capacity span documents))) row.2 (in_map key_of row.0 (processed_rows capacity span documents) there))

  -- a line in force is a known portfolio's
  held_known : (portfolio : List ℕ) (line : NominationLine) (held : Option Nomint) → in_force portfolio span.day documents ≡ held → In line (lines_of held) → In portfolio (portfolios_of capacity.contracts)
  held_known portfolio line None e h = absurd h
  held_known portfolio line (Some document) e h = known_in capacity.contracts span.day portfolio (made.kept.sound portfolio document e).known

  portfolio_known : (portfolio : List ℕ) (line : NominationLine) → In line (lines_in_force portfolio span.day documents) → In portfolio (portfolios_of capacity.contracts)
  unfolding lines_in_force
  portfolio_known portfolio line h = held_known portfolio line (in_force portfolio span.day documents) refl h

  -- and has its row
  row_of_line : (portfolio : List ℕ) (line : NominationLine) → In line (lines_in_force portfolio span.day documents)
      → In (processed_row capacity span portfolio (lines_in_force portfolio span.day documents) line) table.rows
  unfolding portfolio_rows
  row_of_line portfolio line h =
      let lines = lines_in_force portfolio span.day documents in
      let row = processed_row capacity span portfolio lines line in
      let own = in_map (processed_row capacity span portfolio lines) line lines h in
      let there = in_flat_map (portfolio_rows capacity span documents) portfolio row (portfolios_of capacity.contracts) (portfolio_known portfolio line h) own in
      subst (λ (rows : List Row). In row rows) (sym rows_are) (in_order_in row (processed_rows capacity span documents) there)

  pub key_of_line : (portfolio : List ℕ) (line : NominationLine) → In line (lines_in_force portfolio span.day documents) → In (line_key span.side portfolio line) (keys_of table.rows)
  key_of_line portfolio line h =
      let lines = lines_in_force portfolio span.day documents in
      let row = processed_row capacity span portfolio lines line in
      subst (λ (k : Key). In k (keys_of table.rows)) (key_of-row capacity span portfolio lines line) (in_map key_of row table.rows (row_of_line portfolio line h))

  -- the row has the hour's quantity
  hour_of_row : (portfolio : List ℕ) (lines : List NominationLine) (line : NominationLine) (hour : ℕ) → span.first ≤ hour → hour ≤ span.last
      → slice_index (processed_row capacity span portfolio lines line).hours (hour - span.first) ≡ processed_in span.rule capacity portfolio span.day lines line hour
  unfolding processed_row
  hour_of_row portfolio lines line hour low high =
      get_or-map-range_with_len (processed_in span.rule capacity portfolio span.day lines line) span.first (covered span.first span.last) (hour - span.first) hour 0 (omega arith) (omega arith)

  pub reads : (portfolio : List ℕ) (line : NominationLine) (hour : ℕ) → In line (lines_in_force portfolio span.day documents) → table.first ≤ hour → hour ≤ table.last
      → reading table (pair_of span.side portfolio line.counterparty) line.direction hour ≡ processed_in span.rule capacity portfolio span.day (lines_in_force portfolio span.day documents) line hour
  reads portfolio line hour h low high =
      let lines = lines_in_force portfolio span.day documents in
      let row = processed_row capacity span portfolio lines line in
      let found : find (is_at (line_key span.side portfolio line)) table.rows ≡ Some row =
      subst (λ (k : Key). find (is_at k) table.rows ≡ Some row) (key_of-row capacity span portfolio lines line) (find_member table.rows row made.is_table.sorted (row_of_line portfolio line h)) in
      let covers : (nat_le table.first hour && nat_le hour table.last) ≡ true = grind (arith, nat_tests, low, high) in
      let first : table.first ≡ span.first = ap (λ (t : TableContents). t.first) made.is in
      let last : table.last ≡ span.last = ap (λ (t : TableContents). t.last) made.is in
      reading-found table (pair_of span.side portfolio line.counterparty) line.direction hour row found covers
      ∙ ap (λ n. slice_index row.hours (hour - n)) first
      ∙ hour_of_row portfolio lines line hour (omega (arith, low, first)) (omega (arith, high, last))

-- ---- the law

pub map_alike : {X Y : Type 0} (f g : X → Y) (xs : List X) → ((x : X) → In x xs → f x ≡ g x) → map f xs ≡ map g xs
map_alike f g [] same = refl
map_alike f g (x ∷ xs) same =
    let here = same x (inl refl) in
    let rest = map_alike f g xs (λ y h. same y (inr h)) in
    λ i. here i ∷ rest i

pub direction_is : (direction : Direction) (line : NominationLine) → is_in direction line ≡ true → line.direction ≡ direction
direction_is direction line is = same_direction line.direction direction ((Decides-eqb (place_of line.direction) (place_of direction)).0 is)
  where
    same_direction : (a b : Direction) → place_of a ≡ place_of b → a ≡ b
    same_direction IM IM e = refl
    same_direction IM MI e = absurd (omega (arith, e))
    same_direction MI IM e = absurd (omega (arith, e))
    same_direction MI MI e = refl

module _ (capacity : Capacity) (documents : List Nomint) (span : Span) (table : TableContents) (made : IsMade capacity documents span table) where
  -- what the table reads of a line of a direction is its part by the rule
  reads_part : (portfolio : List ℕ) (direction : Direction) (line : NominationLine) (hour : ℕ) → In line (in_direction direction (lines_in_force portfolio span.day documents)) → table.first ≤ hour → hour ≤ table.last
      → reading table (pair_of span.side portfolio line.counterparty) line.direction hour
      ≡ part_by span.rule (available_to capacity portfolio span.day direction hour) (hour - 1) (in_direction direction (lines_in_force portfolio span.day documents)) line
  unfolding processed_in
  reads_part portfolio direction line hour h low high =
      let lines = lines_in_force portfolio span.day documents in
      let kept = from_filter (is_in direction) line lines h in
      reads capacity documents span table made portfolio line hour kept.0 low high
      ∙ ap (λ (d : Direction). part_by span.rule (available_to capacity portfolio span.day d hour) (hour - 1) (in_direction d lines) line) (direction_is direction line kept.1)

  no_twins_in : (portfolio : List ℕ) → has_twins (lines_in_force portfolio span.day documents) ≡ false
  no_twins_in portfolio = (lines_sound capacity documents span.day portfolio made.kept.sound).distinct

  -- and of those that share with a priority their parts of what is left to them
  readings_are : (portfolio : List ℕ) (direction : Direction) (priority hour : ℕ) → table.first ≤ hour → hour ≤ table.last
      → readings table span.side portfolio hour (ordered_sharing span.rule priority documents span.day portfolio direction)
      ≡ map (part (left_to span.rule priority capacity documents span.day portfolio direction hour) (hour - 1) (sharing span.rule priority (in_direction direction (lines_in_force portfolio span.day documents))))
      (ordered_sharing span.rule priority documents span.day portfolio direction)
  readings_are portfolio direction priority hour low high =
      let own = in_direction direction (lines_in_force portfolio span.day documents) in
      let group = sharing span.rule priority own in
      map_alike (λ (line : NominationLine). reading table (pair_of span.side portfolio line.counterparty) line.direction hour)
      (part (left_to span.rule priority capacity documents span.day portfolio direction hour) (hour - 1) group) (by_counterparty group)
      (λ line h.
      let there = in_by_counterparty line group h in
      reads_part portfolio direction line hour (in_sharing span.rule priority own line there) low high
      ∙ sharing_is span.rule priority (available_to capacity portfolio span.day direction hour) (hour - 1) own line there)

  pub table_reduced : (portfolio : List ℕ) (direction : Direction) (priority hour : ℕ) → table.first ≤ hour → hour ≤ table.last
      → IsReduction (left_to span.rule priority capacity documents span.day portfolio direction hour)
      (map (quantity_at (hour - 1)) (ordered_sharing span.rule priority documents span.day portfolio direction))
      (readings table span.side portfolio hour (ordered_sharing span.rule priority documents span.day portfolio direction))
  table_reduced portfolio direction priority hour low high =
      let left = left_to span.rule priority capacity documents span.day portfolio direction hour in
      let lines = lines_in_force portfolio span.day documents in
      subst (IsReduction left (map (quantity_at (hour - 1)) (ordered_sharing span.rule priority documents span.day portfolio direction))) (sym (readings_are portfolio direction priority hour low high))
      (is_reduction left (hour - 1) (sharing span.rule priority (in_direction direction lines)) (sharing_ordered span.rule priority direction lines (no_twins_in portfolio)))

  pub table_all : (portfolio : List ℕ) (direction : Direction) (hour : ℕ) → table.first ≤ hour → hour ≤ table.last
      → available_to capacity portfolio span.day direction hour < total (hour - 1) (in_direction direction (lines_in_force portfolio span.day documents))
      → sum (readings table span.side portfolio hour (ordered_lines documents span.day portfolio direction)) ≡ available_to capacity portfolio span.day direction hour
  table_all portfolio direction hour low high less =
      let available = available_to capacity portfolio span.day direction hour in
      let lines = lines_in_force portfolio span.day documents in
      let own = in_direction direction lines in
      let by_rule = part_by span.rule available (hour - 1) own in
      ap sum (map_alike (λ (line : NominationLine). reading table (pair_of span.side portfolio line.counterparty) line.direction hour) by_rule (by_counterparty own)
      (λ line h. reads_part portfolio direction line hour (in_by_counterparty line own h) low high))
      ∙ sum-map by_rule (by_counterparty own) ∙ sum_by-IsPermutation by_rule own (by_counterparty own) (by_counterparty-permutation own)
      ∙ all_given span.rule available (hour - 1) direction lines (no_twins_in portfolio) less

  pub table_within : (portfolio : List ℕ) (line : NominationLine) → IsInForce documents span.day portfolio line → (hour : ℕ) → table.first ≤ hour → hour ≤ table.last
      → reading table (pair_of span.side portfolio line.counterparty) line.direction hour ≤ quantity_at (hour - 1) line
  table_within portfolio line stands hour low high =
      let lines = lines_in_force portfolio span.day documents in
      let own = in_direction line.direction lines in
      let h = in_filter (is_in line.direction) line lines (in_from_contains line lines stands) ((Decides-eqb (place_of line.direction) (place_of line.direction)).1 refl) in
      let group = sharing span.rule line.priority own in
      let within = no_part_exceeds (left_to span.rule line.priority capacity documents span.day portfolio line.direction hour) (hour - 1) group line
      (sharing_ordered span.rule line.priority line.direction lines (no_twins_in portfolio)) (contains_from_in line group (shares_itself span.rule own line h)) in
      subst (λ n. n ≤ quantity_at (hour - 1) line) (sym (reads_part portfolio line.direction line hour h low high)) within

  pub table_keys : (key : Key) → Contains (keys_of table.rows) key ↔ IsLineKey documents span.side span.day key
  table_keys key = (
    λ h.
        let found = line_of capacity documents span table made key (in_from_contains key (keys_of table.rows) h) in
        record { portfolio = found.0; line = found.2; in_force = contains_from_in found.2 (lines_in_force found.0 span.day documents) found.3; is = sym found.4 },
    λ k.
        let h = in_from_contains k.line (lines_in_force k.portfolio span.day documents) k.in_force in
        contains_from_in key (keys_of table.rows) (subst (λ (l : Key). In l (keys_of table.rows)) (sym k.is) (key_of_line capacity documents span table made k.portfolio k.line h)),
  )

pub is_processed : (capacity : Capacity) (documents : List Nomint) (side : Side) (day : Date) (cycle : ℕ) (rule : Rule) (table : TableContents)
    → IsMade capacity documents (span_of side day cycle rule) table → IsProcessed capacity documents side day cycle rule table
is_processed capacity documents side day cycle rule table made =
    let span = span_of side day cycle rule in
    record {
      is_table = made.is_table;
      first = ap (λ (t : TableContents). t.first) made.is;
      last = ap (λ (t : TableContents). t.last) made.is;
      keys = table_keys capacity documents span table made;
      reduced = table_reduced capacity documents span table made;
      within = table_within capacity documents span table made;
      all = table_all capacity documents span table made;
    }

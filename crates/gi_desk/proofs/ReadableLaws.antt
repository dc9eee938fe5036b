-- What a desk lets out can be written and read.
use Rattle.std.proofs.Common.{arith, ◌≡◌, ◌<◌, ◌≤◌, ◌-◌, ℕ, List, [], ◌∷◌, length, take, filter, map, Bool, true, false, cond, All, Option, Some, None, Ok, refl, sym, ap, ◌∙◌, subst}
use Rattle.std.specs.Int.{IsInRange}
use Rattle.std.specs.List.{range_with_len}
use Rattle.std.specs.Prelude.{◌*◌, ◌==◌, is_some, min, slice_get}
use Rattle.std.specs.Ordering.{is_lt}
use Rattle.std.specs.Str.{bytes_eq}
use Rattle.std.proofs.lemmas.List.{get_or-take, length-map, length-take}
use Rattle.std.proofs.lemmas.List.Sums.{length-filter}
use Rattle.std.proofs.lemmas.List.Elements.{All-append, All-cons, All-filter, All-get_or, All-head, All-map, All-nil, All-tail, All-weaker}
use Rattle.std.proofs.lemmas.Option.{get_or_from_slice_get, slice_get_within}
use Rattle.gi_pairs.specs.Code.{IsCode}
use Rattle.gi_pairs.specs.Key.{code_cmp}
use Rattle.gi_pairs.specs.Pair.{code_at}
use Rattle.gi_pairs.specs.Row.{IsRow}
use Rattle.gi_pairs.specs.Table.{TableContents, covered}
use Rattle.gi_pairs.specs.declared.cycle_id.CycleId.{CycleId}
use Rattle.gi_pairs.specs.declared.row.Row.{Row}
use Rattle.gi_pairs.specs.declared.side.Side.{Side}
use Rattle.gi_pairs.specs.declared.side.Side.TheVariants.{I, M}
use Rattle.gi_pairs.proofs.Slices.{length-slice, slice-is_table}
use Rattle.gi_messages.specs.Decoding.{decoded}
use Rattle.gi_messages.specs.Grammar.{Fits, FitsAcknow, FitsDelord, FitsDelres, FitsLine, FitsNomint, FitsNomres, HasFewLines}
use Rattle.gi_messages.specs.Limits.{elements_of, most_confirmed_elements, most_part_elements, most_processed_elements}
use Rattle.gi_messages.specs.Writing.{text_of}
use Rattle.gi_messages.specs.declared.line.Line.{Line}
use Rattle.gi_messages.specs.declared.message.Message.{Message}
use Rattle.gi_messages.specs.declared.message.Message.TheVariants.{Acknow, Nomres, Delord, Delres}
use Rattle.gi_messages.specs.declared.message.Nomint.{Nomint as NomintOf}
use Rattle.gi_messages.proofs.ShortTexts.{texts_are_short}
use Rattle.gi_messages.proofs.WritingLemmas.{round_trip, writable_from_fits}
use Rattle.gi_cycles.specs.States.{FrozenCycle, MatchedCycle}
use Rattle.gi_cycles.specs.declared.cycle_state.CycleState.{CycleState}
use Rattle.gi_cycles.specs.declared.cycle_state.CycleState.TheVariants.{Collecting, Frozen, Matched}
use Rattle.gi_desk.specs.History.{state_of}
use Rattle.gi_desk.specs.LetOut.{IsFact, frozen_of, if_fact, let_out, let_out_on_closing, sent}
use Rattle.gi_desk.specs.Machine.{bad_fact}
use Rattle.gi_desk.specs.Messages.{acknow_of, is_row_of, line_of, on_closed, on_met, order_of, order_part, portfolios_in, response_of, response_part, to_peer, to_user, told_of, told_packets, with_code}
use Rattle.gi_desk.specs.Writable.{FitsDesk, FitsFrozen, FitsMatched, FitsState, IsReadable}
use Rattle.gi_facts.specs.Writable.{FitsFact}
use Rattle.gi_facts.specs.declared.fact.Fact.{Fact}
use Rattle.gi_facts.specs.declared.fact.Fact.TheVariants.{Contracted, Noticed, Nominated, Closed, Met}
use Rattle.gi_desk.specs.declared.packet.Packet.{Packet}
use Rattle.gi_desk.specs.declared.packet.Recipient.{Recipient}
use Rattle.gi_desk.specs.declared.packet.Recipient.TheVariants.{Peer, User}
use Rattle.gi_desk.proofs.Fitting.{state-fits}
use Rattle.gi_desk.proofs.LettingOut.{closing_lets_out, fact_closes, fact_meets, is_matched, let_out-is, meeting_lets_out}
use Rattle.gi_parts.specs.Splitting.{part_of_table, parts_of_whole}
use Rattle.gi_parts.proofs.Splits.{few-parts}
use Rattle.gi_desk.proofs.PartsOfTables.{each-part}
use Rattle.gi_processing.specs.declared.rule.Rule.{Rule}

-- ---- texts

-- what is written is read back
pub read_back : (m : Message) → Fits m → HasFewLines m → decoded (text_of m) ≡ Ok m
read_back m fits few = let writable = writable_from_fits m fits in round_trip m writable (texts_are_short m writable few)

readable : (m : Message) → Fits m → HasFewLines m → (to : Recipient) → IsReadable (record { to = to; body = text_of m })
readable m fits few to = let writable = writable_from_fits m fits in (m, writable, refl, texts_are_short m writable few)

-- ---- messages

pub acknow-fits : (document : NomintOf) → FitsNomint document → FitsAcknow (acknow_of document)
acknow-fits document fits = record { point = fits.point; portfolio = fits.portfolio; day = fits.day; from = fits.from; to = fits.to }

-- a part has few rows, in however many parts the table goes out
few_in_part : (number parts most : ℕ) (table : TableContents) → most_part_elements ≤ most → length (part_of_table number table).rows ≤ elements_of most parts
few_in_part number parts most table more =
    let few = length-slice (most_part_elements * (number - 1)) most_part_elements table in
    by_parts (parts == 1) few
  where
    by_parts : (b : Bool) → length (part_of_table number table).rows ≡ min most_part_elements (length table.rows - most_part_elements * (number - 1))
        → length (part_of_table number table).rows ≤ cond b most most_part_elements
    by_parts true few = omega (arith, few, more)
    by_parts false few = omega (arith, few)

-- each part of an order
pub order-fits : {side : Side} (point : List ℕ) (cycle : FrozenCycle) (number : ℕ) → IsCode point → FitsFrozen side cycle → IsInRange 1 (parts_of_whole (order_of cycle)) number
    → FitsDelord (order_part point cycle number)
order-fits point cycle number code fits within =
    let parts = parts_of_whole (order_of cycle) in
    record {
      point = code;
      day = fits.id.day;
      cycle = fits.id.cycle;
      few_parts = few-parts (length cycle.own.rows) (omega (arith, fits.own.few));
      part_from = within.0;
      part_to = within.1;
      processed = slice-is_table (most_part_elements * (number - 1)) most_part_elements cycle.own fits.own.table;
      few = few_in_part number parts most_processed_elements cycle.own (omega arith);
    }

-- and each part of a response
pub response-fits : {side : Side} (point : List ℕ) (cycle : MatchedCycle) (number : ℕ) → IsCode point → FitsMatched side cycle → IsInRange 1 (parts_of_whole (response_of cycle)) number
    → FitsDelres (response_part point cycle number)
response-fits point cycle number code fits within =
    let parts = parts_of_whole (response_of cycle) in
    record {
      point = code;
      day = fits.id.day;
      cycle = fits.id.cycle;
      few_parts = few-parts (length cycle.confirmed.rows) (omega (arith, fits.confirmed.few));
      part_from = within.0;
      part_to = within.1;
      processed = slice-is_table (most_part_elements * (number - 1)) most_part_elements cycle.own fits.own.table;
      few = few_in_part number parts most_processed_elements cycle.own (omega arith);
      confirmed = slice-is_table (most_part_elements * (number - 1)) most_part_elements cycle.confirmed fits.confirmed;
      few_confirmed = few_in_part number parts most_confirmed_elements cycle.confirmed (omega arith);
      begins = fits.begins;
      ends = fits.ends;
    }

line-fits : (side : Side) (row : Row) → IsRow row → FitsLine (line_of side row)
line-fits I row is = record { counterparty = is.key.matching; quantities = is.quantities }
line-fits M row is = record { counterparty = is.key.initiating; quantities = is.quantities }

own_code : (side : Side) (row : Row) → IsRow row → IsCode (code_at side row.pair)
own_code I row is = is.key.initiating
own_code M row is = is.key.matching

pub told-fits : (side : Side) (point : List ℕ) (cycle : MatchedCycle) (portfolio : List ℕ) → IsCode point → FitsMatched side cycle → IsCode portfolio → FitsNomres (told_of side point cycle portfolio)
told-fits side point cycle portfolio code fits own =
    let table = cycle.confirmed in
    let is = fits.confirmed in
    let rows = filter (is_row_of side portfolio) table.rows in
    let known = All-filter (is_row_of side portfolio) IsRow table.rows is.all in
    let whole = All-filter (is_row_of side portfolio) (λ (row : Row). length row.hours ≡ covered table.first table.last) table.rows is.whole in
    record {
      point = code;
      portfolio = own;
      day = fits.id.day;
      cycle = fits.id.cycle;
      begins = is.begins;
      ordered = is.ordered;
      ends = is.ends;
      lines = All-map FitsLine (line_of side) rows (All-weaker IsRow (λ (row : Row). FitsLine (line_of side row)) (line-fits side) rows known);
      whole = All-map (λ (line : Line). length line.hours ≡ covered table.first table.last) (line_of side) rows whole;
    }

-- its lines are as many as the rows of the portfolio in the frozen table and all rows of the peer's, at most
pub told-few : (side : Side) (point : List ℕ) (cycle : MatchedCycle) (portfolio : List ℕ) → FitsMatched side cycle → HasFewLines (Nomres (told_of side point cycle portfolio))
told-few side point cycle portfolio fits =
    let rows = filter (is_row_of side portfolio) cycle.confirmed.rows in
    let many : length (map (line_of side) rows) ≡ length rows = length-map rows (line_of side) in
    omega (arith, many, length-filter (is_row_of side portfolio) cycle.confirmed.rows, fits.few_told portfolio)

-- ---- packets

-- each of so many messages can be read
each-readable : (message : ℕ → Message) (parts : ℕ) → ((number : ℕ) → IsInRange 1 parts number → Fits (message number) × HasFewLines (message number))
    → All IsReadable (sent (map message (range_with_len 1 parts)))
each-readable message parts fits =
    let numbers = range_with_len 1 parts in
    let is : (number : ℕ) → IsInRange 1 parts number → IsReadable (to_peer (message number)) =
    λ number within. let each = fits number within in readable (message number) each.0 each.1 Peer in
    All-map IsReadable to_peer (map message numbers)
    (All-map (λ (m : Message). IsReadable (to_peer m)) message numbers (each-part (λ number. IsReadable (to_peer (message number))) parts is))

closed-readable : (side : Side) (point : List ℕ) (cycle : FrozenCycle) → IsCode point → FitsFrozen side cycle → All IsReadable (sent (on_closed side point cycle))
closed-readable I point cycle code fits =
    each-readable (λ number. Delord (order_part point cycle number)) (parts_of_whole (order_of cycle)) (λ number within. (order-fits point cycle number code fits within, tt))
closed-readable M point cycle code fits = All-nil IsReadable

met-readable : (side : Side) (point : List ℕ) (cycle : MatchedCycle) → IsCode point → FitsMatched side cycle → All IsReadable (sent (on_met side point cycle))
met-readable I point cycle code fits = All-nil IsReadable
met-readable M point cycle code fits =
    each-readable (λ number. Delres (response_part point cycle number)) (parts_of_whole (response_of cycle)) (λ number within. (response-fits point cycle number code fits within, tt))

-- the portfolios in rows are codes
coded_by : (b c : Bool) (code x : List ℕ) (xs later : List (List ℕ)) → IsCode code → IsCode x → All IsCode xs → All IsCode later
    → All IsCode (cond b (x ∷ xs) (cond c (code ∷ x ∷ xs) (x ∷ later)))
coded_by true c code x xs later here first rest more = All-cons IsCode x xs first rest
coded_by false true code x xs later here first rest more = All-cons IsCode code (x ∷ xs) here (All-cons IsCode x xs first rest)
coded_by false false code x xs later here first rest more = All-cons IsCode x later first more

coded : (code : List ℕ) (codes : List (List ℕ)) → IsCode code → All IsCode codes → All IsCode (with_code code codes)
coded code [] here all = All-cons IsCode code [] here (All-nil IsCode)
coded code (x ∷ xs) here all =
    let first = All-head IsCode x xs all in
    let rest = All-tail IsCode x xs all in
    coded_by (bytes_eq code x) (is_lt (code_cmp code x)) code x xs (with_code code xs) here first rest (coded code xs here rest)

pub portfolios-coded : (side : Side) (rows : List Row) → All IsRow rows → All IsCode (portfolios_in side rows)
portfolios-coded side [] all = All-nil IsCode
portfolios-coded side (row ∷ rows) all =
    coded (code_at side row.pair) (portfolios_in side rows) (own_code side row (All-head IsRow row rows all)) (portfolios-coded side rows (All-tail IsRow row rows all))

told-readable : (side : Side) (point : List ℕ) (cycle : MatchedCycle) → IsCode point → FitsMatched side cycle → All IsReadable (told_packets side point cycle)
unfolding told_packets
told-readable side point cycle code fits =
    let portfolios = portfolios_in side cycle.confirmed.rows in
    let packet : List ℕ → Packet = λ portfolio. to_user portfolio (Nomres (told_of side point cycle portfolio)) in
    All-map IsReadable packet portfolios
    (All-weaker IsCode (λ (portfolio : List ℕ). IsReadable (packet portfolio))
    (λ portfolio own.
    readable (Nomres (told_of side point cycle portfolio)) (told-fits side point cycle portfolio code fits own) (told-few side point cycle portfolio fits) (User portfolio))
    portfolios (portfolios-coded side cycle.confirmed.rows fits.confirmed.all))

-- ---- what each kind of fact lets out

frozen_again : {side : Side} (cycle : MatchedCycle) → FitsMatched side cycle → FitsFrozen side (frozen_of cycle)
frozen_again cycle fits = record { id = fits.id; own = fits.own; few_of_each = fits.few_of_each }

on_closing-readable : (side : Side) (point : List ℕ) (state : CycleState) → IsCode point → FitsState side state → All IsReadable (let_out_on_closing side point state)
on_closing-readable side point (Collecting id) code fits = All-nil IsReadable
on_closing-readable side point (Frozen cycle) code fits = closed-readable side point cycle code fits
on_closing-readable side point (Matched cycle) code fits = closed-readable side point (frozen_of cycle) code (frozen_again cycle fits)

closing-readable : (side : Side) (point : List ℕ) (facts : List Fact) (n : ℕ) (id : CycleId) (rule : Rule) → FitsDesk side point facts → IsFact facts n (Closed id rule)
    → All IsReadable (let_out side point facts n)
closing-readable side point facts n id rule desk is =
    subst (λ (packets : List Packet). All IsReadable packets) (closing_lets_out side point facts n id rule is)
    (on_closing-readable side point (state_of side facts id) desk.point (state-fits side facts id desk.states (fact_closes facts n id rule is)))

meeting-readable : (side : Side) (point : List ℕ) (facts : List Fact) (n : ℕ) (id : CycleId) (peer : TableContents) → bad_fact side point facts ≡ None
    → FitsDesk side point facts → IsFact facts n (Met id peer) → All IsReadable (let_out side point facts n)
meeting-readable side point facts n id peer legal desk is =
    let met = fact_meets side point facts n id peer legal is in
    let matched = is_matched side facts id met.0 (ap is_some met.1) in
    let fits : FitsMatched side matched.0 = subst (FitsState side) matched.1 (state-fits side facts id desk.states met.0) in
    subst (λ (packets : List Packet). All IsReadable packets) (meeting_lets_out side point facts n id peer matched.0 legal is (sym matched.1))
    (All-append IsReadable (sent (on_met side point matched.0)) (told_packets side point matched.0)
    (met-readable side point matched.0 desk.point fits) (told-readable side point matched.0 desk.point fits))

pub fact-fits : (side : Side) (point : List ℕ) (facts : List Fact) (n : ℕ) (fact : Fact) → FitsDesk side point facts → IsFact facts n fact → FitsFact fact
fact-fits side point facts n fact desk is =
    let from = is.0 in
    let to = is.1 in
    subst FitsFact (sym is.2) (All-get_or FitsFact facts (n - 1) fact (omega (arith, from, to)) desk.facts)

fact-readable : (side : Side) (point : List ℕ) (facts : List Fact) (n : ℕ) (fact : Fact) → bad_fact side point facts ≡ None → FitsDesk side point facts
    → IsFact facts n fact → All IsReadable (let_out side point facts n)
fact-readable side point facts n (Contracted contract) legal desk is =
    subst (λ (packets : List Packet). All IsReadable packets) (sym (let_out-is side point facts n (Contracted contract) is)) (All-nil IsReadable)
fact-readable side point facts n (Noticed notice) legal desk is =
    subst (λ (packets : List Packet). All IsReadable packets) (sym (let_out-is side point facts n (Noticed notice) is)) (All-nil IsReadable)
fact-readable side point facts n (Nominated document) legal desk is =
    let fits : FitsNomint document = fact-fits side point facts n (Nominated document) desk is in
    let packet = to_user document.portfolio (Acknow (acknow_of document)) in
    subst (λ (packets : List Packet). All IsReadable packets) (sym (let_out-is side point facts n (Nominated document) is))
    (All-cons IsReadable packet [] (readable (Acknow (acknow_of document)) (acknow-fits document fits) tt (User document.portfolio)) (All-nil IsReadable))
fact-readable side point facts n (Closed id rule) legal desk is = closing-readable side point facts n id rule desk is
fact-readable side point facts n (Met id peer) legal desk is = meeting-readable side point facts n id peer legal desk is

-- ---- what a number lets out

is_fact : (facts : List Fact) (n : ℕ) (fact : Fact) → slice_get (take n facts) (n - 1) ≡ Some fact → IsFact facts n fact
is_fact facts n fact found =
    let within = slice_get_within (take n facts) (n - 1) fact found in
    let taken = length-take n facts in
    let from : 1 ≤ n = grind (arith, within, taken) in
    let to : n ≤ length facts = grind (arith, within, taken) in
    let below : n - 1 < n = omega (arith, from) in
    (from, to, sym (get_or_from_slice_get (take n facts) (n - 1) fact fact found) ∙ get_or-take n facts (n - 1) fact below)

found_by : (side : Side) (point : List ℕ) (facts : List Fact) (n : ℕ) (found : Option Fact) → bad_fact side point facts ≡ None → FitsDesk side point facts
    → slice_get (take n facts) (n - 1) ≡ found → All IsReadable (let_out side point facts n)
unfolding let_out
found_by side point facts n None legal desk found =
    subst (λ (packets : List Packet). All IsReadable packets) (ap (if_fact side point (take n facts)) (sym found)) (All-nil IsReadable)
found_by side point facts n (Some fact) legal desk found = fact-readable side point facts n fact legal desk (is_fact facts n fact found)

pub writes-messages : (side : Side) (point : List ℕ) (facts : List Fact) (n : ℕ) → bad_fact side point facts ≡ None → FitsDesk side point facts
    → All IsReadable (let_out side point facts n)
writes-messages side point facts n legal desk = found_by side point facts n (slice_get (take n facts) (n - 1)) legal desk refl

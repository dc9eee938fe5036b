-- What a side tells its portfolios are its rows of a table that it has confirmed.
use Rattle.std.proofs.Common.{arith, ◌≡◌, ◌≤◌, ◌+◌, ◌-◌, ◌⊎◌, inl, inr, ℕ, List, [], ◌∷◌, ◌++◌, length, filter, All, Contains, Bool, true, false, ◌&&◌, nat_le, slice_index, Option, Some, Ok, refl, sym, ap, ◌∙◌, subst}
use Rattle.std.proofs.lemmas.Bool.Decides.{nat_tests}
use Rattle.std.proofs.lemmas.List.Elements.{All-head, All-map, All-tail}
use Rattle.std.proofs.lemmas.Option.{get_or_from_slice_get, slice_get_within}
use Rattle.std.proofs.lemmas.Slice.Eq.{bytes_eq-Decides}
use Rattle.gi_pairs.specs.Code.{IsCode}
use Rattle.gi_pairs.specs.Pair.{code_at, pair_of}
use Rattle.gi_pairs.specs.Side.{other}
use Rattle.gi_pairs.specs.Table.{IsTable, TableContents, covered, reading}
use Rattle.gi_pairs.specs.declared.cycle_id.CycleId.{CycleId}
use Rattle.gi_pairs.specs.declared.pair.Pair.{Pair}
use Rattle.gi_pairs.specs.declared.row.Row.{Row}
use Rattle.gi_pairs.specs.declared.side.Side.{Side}
use Rattle.gi_pairs.specs.declared.side.Side.TheVariants.{I, M}
use Rattle.gi_pairs.proofs.Building.{In, contains_from_in, in_from_contains}
use Rattle.gi_pairs.proofs.Members.{find_member, from_append, from_map}
use Rattle.gi_pairs.proofs.Reading.{reading-found}
use Rattle.gi_lesser.specs.Lesser.{lesser_of}
use Rattle.gi_messages.specs.Decoding.{decoded}
use Rattle.gi_messages.specs.declared.message.Message.{Message}
use Rattle.gi_messages.specs.declared.message.Message.TheVariants as messages
use Rattle.gi_cycles.specs.States.{MatchedCycle, matched_of}
use Rattle.gi_cycles.specs.declared.cycle_state.CycleState.TheVariants.{Matched}
use Rattle.gi_parts.specs.Splitting.{parts_of_whole}
use Rattle.gi_desk.specs.History.{frozen_cycle, frozen_table, is_closed, met_by, peer_of, state_of}
use Rattle.gi_desk.specs.LetOut.{IsFact, let_out, let_out_on_closing, sent}
use Rattle.gi_desk.specs.Machine.{DeskState, is_for_peer}
use Rattle.gi_desk.specs.Messages.{acknow_of, is_row_of, line_of, on_met, order_of, order_part, portfolios_in, response_of, response_part, responses_of, to_peer, to_user, told_of, told_packets}
use Rattle.gi_desk.specs.Writable.{FitsDesk, FitsMatched, FitsState}
use Rattle.gi_desk.specs.declared.packet.Packet.{Packet}
use Rattle.gi_facts.specs.declared.fact.Fact.{Fact}
use Rattle.gi_facts.specs.declared.fact.Fact.TheVariants.{Contracted, Noticed, Nominated, Closed, Met}
use Rattle.gi_desk.proofs.Legality.{legal-front}
use Rattle.gi_desk.proofs.ReadableLaws.{acknow-fits, fact-fits, portfolios-coded, read_back, told-few, told-fits}
use Rattle.gi_desk.proofs.StateLaws.{state-closed}
use Rattle.gi_desk.proofs.LettingOut.{closing_lets_out, fact_closes, fact_meets, let_out-is, meeting_lets_out}
use Rattle.gi_world.specs.Agreement.{IsLegal, IsLetOut, IsTold, saved_facts}
use Rattle.gi_world.specs.Telling.{IsRead}
use Rattle.gi_world.specs.World.{IsTextForPortfolio, is_telling, tells}
use Rattle.gi_world.proofs.DeliveredPackets.{closed_fits, frozen_fits, none_there, one_there, order_reads, ordered_by, part_there, response_reads, saved_fact, some_fact, unanswered_by}
use Rattle.gi_world.proofs.SentPackets.{all_kept}
use Rattle.gi_processing.specs.declared.rule.Rule.{Rule}

-- ---- what a portfolio is told can be read

-- what holds of all portfolios holds of one of them
coded_among : (codes : List (List ℕ)) (code : List ℕ) → All IsCode codes → In code codes → IsCode code
coded_among [] code all there = absurd there
coded_among (first ∷ codes) code all (inl same) = subst IsCode same (All-head IsCode first codes all)
coded_among (first ∷ codes) code all (inr later) = coded_among codes code (All-tail IsCode first codes all) later

told_reads : (side : Side) (point : List ℕ) (cycle : MatchedCycle) (portfolio : List ℕ) → IsCode point → FitsMatched side cycle → IsCode portfolio
    → let message = messages.Nomres (told_of side point cycle portfolio) in decoded (to_user portfolio message).body ≡ Ok message
told_reads side point cycle portfolio code fits own =
    read_back (messages.Nomres (told_of side point cycle portfolio)) (told-fits side point cycle portfolio code fits own) (told-few side point cycle portfolio fits)

-- ---- its lines have the confirmed quantities

pair_is : (side : Side) (portfolio : List ℕ) (pair : Pair) → code_at side pair ≡ portfolio → pair_of side portfolio (code_at (other side) pair) ≡ pair
pair_is I portfolio pair own = λ t. record { initiating = sym own t; matching = pair.matching }
pair_is M portfolio pair own = λ t. record { initiating = pair.initiating; matching = sym own t }

row_is : (side : Side) (point : List ℕ) (cycle : MatchedCycle) (portfolio : List ℕ) (row : Row) → IsTable cycle.confirmed → Contains cycle.confirmed.rows row
    → is_row_of side portfolio row ≡ true → IsRead side (told_of side point cycle portfolio) cycle.confirmed (line_of side row)
row_is side point cycle portfolio row table there own place quantity at =
    let t = cycle.confirmed in
    let hour = t.first + place in
    let within = slice_get_within row.hours place quantity at in
    let whole = subst (λ (r : Row). length r.hours ≡ covered t.first t.last) there.2 (table.whole there.0 row there.1) in
    let covers : (nat_le t.first hour && nat_le hour t.last) ≡ true = grind (arith, nat_tests, within, whole) in
    let same : hour - t.first ≡ place = omega arith in
    let pair = pair_is side portfolio row.pair ((bytes_eq-Decides (code_at side row.pair) portfolio).0 own) in
    sym (
    ap (λ (p : Pair). reading t p row.direction hour) pair
    ∙ reading-found t row.pair row.direction hour row (find_member t.rows row table.sorted (in_from_contains row t.rows there)) covers
    ∙ ap (λ (i : ℕ). slice_index row.hours i) same
    ∙ get_or_from_slice_get row.hours place quantity 0 at
    )

pub lines-are : (side : Side) (point : List ℕ) (cycle : MatchedCycle) (portfolio : List ℕ) → IsTable cycle.confirmed
    → let message = told_of side point cycle portfolio in All (IsRead side message cycle.confirmed) message.lines
lines-are side point cycle portfolio table =
    let message = told_of side point cycle portfolio in
    let is_read : Row → Type 0 = λ row. IsRead side message cycle.confirmed (line_of side row) in
    All-map (IsRead side message cycle.confirmed) (line_of side) (filter (is_row_of side portfolio) cycle.confirmed.rows)
    (all_kept is_read (is_row_of side portfolio) cycle.confirmed.rows (λ row there own. row_is side point cycle portfolio row table there own))

-- ---- what each kind of fact tells

-- a packet that tells a portfolio its rows of the lesser of the frozen table and one that a saved fact met
pub record IsTelling (side : Side) (s : DeskState) (packet : Packet) : Type 0 where
  pub id : CycleId
  pub peer : TableContents
  pub portfolio : List ℕ
  pub met : peer_of id (saved_facts s) ≡ Some peer
  pub table : IsTable (lesser_of (frozen_table side s.facts id) peer)
  pub reads : decoded packet.body ≡ Ok (messages.Nomres (told_of side s.point (matched_of (frozen_cycle side s.facts id) peer) portfolio))

-- what reads as another message tells nothing
silent : (packet other : Packet) (message : Message) → other ≡ packet → decoded other.body ≡ Ok message → is_telling (Ok message) ≡ false → tells packet ≡ true → ⊥
silent packet other message same reads is telling =
    let never : true ≡ false = sym telling ∙ ap tells (sym same) ∙ ap is_telling reads ∙ is in absurd cc

-- a closing writes to the peer alone
closing_tells : (side : Side) (s : DeskState) (n : ℕ) (id : CycleId) (rule : Rule) (packet : Packet) → FitsDesk side s.point s.facts → IsFact s.facts n (Closed id rule)
    → Contains (let_out side s.point s.facts n) packet → tells packet ≡ true → ⊥
closing_tells side s n id rule packet fits is there telling = by_side side fits there
  where
    closed : is_closed id s.facts ≡ true
    closed = fact_closes s.facts n id rule is

    out : (side : Side) → let_out side s.point s.facts n ≡ let_out_on_closing side s.point (met_by (frozen_cycle side s.facts id) (peer_of id s.facts))
    out side = sym (closing_lets_out side s.point s.facts n id rule is) ∙ ap (let_out_on_closing side s.point) (state-closed side s.facts id closed)

    by_side : (side : Side) → FitsDesk side s.point s.facts → Contains (let_out side s.point s.facts n) packet → ⊥
    by_side I fits there =
        let cycle = frozen_cycle I s.facts id in
        let message : ℕ → Message = λ number. messages.Delord (order_part s.point cycle number) in
        let (number, within, same) = part_there (let_out I s.point s.facts n) packet message (parts_of_whole (order_of cycle)) (out I ∙ ordered_by s.point cycle (peer_of id s.facts)) there in
        let reads = order_reads s.point cycle number fits.point (frozen_fits I cycle (peer_of id s.facts) (closed_fits I s.point s.facts id fits closed)) within in
        silent packet (to_peer (message number)) (message number) same reads refl telling
    by_side M fits there =
        none_there (let_out M s.point s.facts n) packet (out M ∙ unanswered_by s.point (frozen_cycle M s.facts id) (peer_of id s.facts)) there

-- what a role writes of a meeting to the peer tells nothing
response_tells : (side : Side) (point : List ℕ) (cycle : MatchedCycle) (packet : Packet) → IsCode point → FitsMatched side cycle → In packet (sent (on_met side point cycle)) → tells packet ≡ true → ⊥
response_tells I point cycle packet code fits there telling = there
response_tells M point cycle packet code fits there telling =
    let message : ℕ → Message = λ number. messages.Delres (response_part point cycle number) in
    let out = sent (responses_of point cycle) in
    let (number, within, same) = part_there out packet message (parts_of_whole (response_of cycle)) refl (contains_from_in packet out there) in
    silent packet (to_peer (message number)) (message number) same (response_reads point cycle number code fits within) refl telling

told_from : (side : Side) (point : List ℕ) (cycle : MatchedCycle) (packet : Packet) → In packet (told_packets side point cycle)
    → (portfolio : List ℕ) × In portfolio (portfolios_in side cycle.confirmed.rows) × (to_user portfolio (messages.Nomres (told_of side point cycle portfolio)) ≡ packet)
unfolding told_packets
told_from side point cycle packet there =
    from_map (λ portfolio. to_user portfolio (messages.Nomres (told_of side point cycle portfolio))) packet (portfolios_in side cycle.confirmed.rows) there

-- of a meeting's packets those that tell carry the portfolio's rows
meeting_tells : (side : Side) (point : List ℕ) (cycle : MatchedCycle) (packet : Packet) → IsCode point → FitsMatched side cycle
    → In packet (sent (on_met side point cycle)) ⊎ In packet (told_packets side point cycle) → tells packet ≡ true
    → (portfolio : List ℕ) × (decoded packet.body ≡ Ok (messages.Nomres (told_of side point cycle portfolio)))
meeting_tells side point cycle packet code fits (inl there) telling = absurd (response_tells side point cycle packet code fits there telling)
meeting_tells side point cycle packet code fits (inr there) telling =
    let (portfolio, among, same) = told_from side point cycle packet there in
    let message = messages.Nomres (told_of side point cycle portfolio) in
    (portfolio, subst (λ (p : Packet). decoded p.body ≡ Ok message) same (told_reads side point cycle portfolio code fits (coded_among (portfolios_in side cycle.confirmed.rows) portfolio (portfolios-coded side cycle.confirmed.rows fits.confirmed.all) among)))

telling_of_fact : (side : Side) (s : DeskState) (n : ℕ) (fact : Fact) (packet : Packet) → IsLegal side s → FitsDesk side s.point s.facts → n ≤ s.saved → IsFact s.facts n fact
    → Contains (let_out side s.point s.facts n) packet → tells packet ≡ true → IsTelling side s packet
telling_of_fact side s n (Contracted contract) packet legal fits below is there telling =
    absurd (none_there (let_out side s.point s.facts n) packet (let_out-is side s.point s.facts n (Contracted contract) is) there)
telling_of_fact side s n (Noticed notice) packet legal fits below is there telling =
    absurd (none_there (let_out side s.point s.facts n) packet (let_out-is side s.point s.facts n (Noticed notice) is) there)
telling_of_fact side s n (Nominated document) packet legal fits below is there telling =
    let message = messages.Acknow (acknow_of document) in
    let packet_is = to_user document.portfolio message in
    let same = one_there (let_out side s.point s.facts n) packet_is packet (let_out-is side s.point s.facts n (Nominated document) is) there in
    absurd (silent packet packet_is message same (read_back message (acknow-fits document (fact-fits side s.point s.facts n (Nominated document) fits is)) tt) refl telling)
telling_of_fact side s n (Closed id rule) packet legal fits below is there telling = absurd (closing_tells side s n id rule packet fits is there telling)
telling_of_fact side s n (Met id peer) packet legal fits below is there telling =
    let cycle = matched_of (frozen_cycle side s.facts id) peer in
    let all = fact_meets side s.point s.facts n id peer legal.legal is in
    let state : state_of side s.facts id ≡ Matched cycle = state-closed side s.facts id all.0 ∙ ap (met_by (frozen_cycle side s.facts id)) all.1 in
    let matched = subst (λ (met : Option TableContents). FitsState side (met_by (frozen_cycle side s.facts id) met)) all.1 (closed_fits side s.point s.facts id fits all.0) in
    let out = meeting_lets_out side s.point s.facts n id peer cycle legal.legal is (sym state) in
    let found = in_from_contains packet (sent (on_met side s.point cycle) ++ told_packets side s.point cycle) (subst (λ (packets : List Packet). Contains packets packet) (sym out) there) in
    let (portfolio, read) =
    meeting_tells side s.point cycle packet fits.point matched (from_append packet (sent (on_met side s.point cycle)) (told_packets side s.point cycle) found) telling in
    let saved =
    fact_meets side s.point (saved_facts s) n id peer (legal-front side s.point s.facts s.saved legal.legal) (saved_fact s.facts s.saved n (Met id peer) is below) in
    record { id = id; peer = peer; portfolio = portfolio; met = saved.1; table = matched.confirmed; reads = read }

pub told-tells : (side : Side) (s : DeskState) (packet : Packet) → IsLegal side s → FitsDesk side s.point s.facts → IsTold side s packet → IsTelling side s packet
told-tells side s packet legal fits is =
    let to = is.to in
    let within = legal.within in
    let fact = some_fact s.facts is.n is.from (omega (arith, to, within)) in
    telling_of_fact side s is.n fact.0 packet legal fits to fact.1 is.let_out_by is.passes

-- ---- what a portfolio is sent

-- what goes to the peer is sent to no portfolio
not_for_peer : (packet other : Packet) → other ≡ packet → is_for_peer other ≡ true → is_for_peer packet ≡ false → ⊥
not_for_peer packet other same inwards outwards = let never : true ≡ false = sym inwards ∙ ap is_for_peer same ∙ outwards in absurd cc

-- a closing writes to the peer alone
text_on_closing : (side : Side) (s : DeskState) (n : ℕ) (id : CycleId) (rule : Rule) (packet : Packet) → IsFact s.facts n (Closed id rule)
    → Contains (let_out side s.point s.facts n) packet → is_for_peer packet ≡ false → ⊥
text_on_closing side s n id rule packet is there outwards = by_side side there
  where
    closed : is_closed id s.facts ≡ true
    closed = fact_closes s.facts n id rule is

    out : (side : Side) → let_out side s.point s.facts n ≡ let_out_on_closing side s.point (met_by (frozen_cycle side s.facts id) (peer_of id s.facts))
    out side = sym (closing_lets_out side s.point s.facts n id rule is) ∙ ap (let_out_on_closing side s.point) (state-closed side s.facts id closed)

    by_side : (side : Side) → Contains (let_out side s.point s.facts n) packet → ⊥
    by_side I there =
        let cycle = frozen_cycle I s.facts id in
        let message : ℕ → Message = λ number. messages.Delord (order_part s.point cycle number) in
        let (number, within, same) = part_there (let_out I s.point s.facts n) packet message (parts_of_whole (order_of cycle)) (out I ∙ ordered_by s.point cycle (peer_of id s.facts)) there in
        not_for_peer packet (to_peer (message number)) same refl outwards
    by_side M there =
        none_there (let_out M s.point s.facts n) packet (out M ∙ unanswered_by s.point (frozen_cycle M s.facts id) (peer_of id s.facts)) there

-- nor is a response sent to one
text_of_response : (side : Side) (point : List ℕ) (cycle : MatchedCycle) (packet : Packet) → In packet (sent (on_met side point cycle)) → is_for_peer packet ≡ false → ⊥
text_of_response I point cycle packet there outwards = there
text_of_response M point cycle packet there outwards =
    let message : ℕ → Message = λ number. messages.Delres (response_part point cycle number) in
    let out = sent (responses_of point cycle) in
    let (number, within, same) = part_there out packet message (parts_of_whole (response_of cycle)) refl (contains_from_in packet out there) in
    not_for_peer packet (to_peer (message number)) same refl outwards

text_on_meeting : (side : Side) (point : List ℕ) (cycle : MatchedCycle) (packet : Packet) → IsCode point → FitsMatched side cycle
    → In packet (sent (on_met side point cycle)) ⊎ In packet (told_packets side point cycle) → is_for_peer packet ≡ false → IsTextForPortfolio packet
text_on_meeting side point cycle packet code fits (inl there) outwards = absurd (text_of_response side point cycle packet there outwards)
text_on_meeting side point cycle packet code fits (inr there) outwards =
    let (portfolio, among, same) = told_from side point cycle packet there in
    let reads = told_reads side point cycle portfolio code fits (coded_among (portfolios_in side cycle.confirmed.rows) portfolio (portfolios-coded side cycle.confirmed.rows fits.confirmed.all) among) in
    subst IsTextForPortfolio same (record { message = messages.Nomres (told_of side point cycle portfolio); for_portfolio = tt; written = refl; reads = reads })

text_of_fact : (side : Side) (s : DeskState) (n : ℕ) (fact : Fact) (packet : Packet) → IsLegal side s → FitsDesk side s.point s.facts → IsFact s.facts n fact
    → Contains (let_out side s.point s.facts n) packet → is_for_peer packet ≡ false → IsTextForPortfolio packet
text_of_fact side s n (Contracted contract) packet legal fits is there outwards =
    absurd (none_there (let_out side s.point s.facts n) packet (let_out-is side s.point s.facts n (Contracted contract) is) there)
text_of_fact side s n (Noticed notice) packet legal fits is there outwards =
    absurd (none_there (let_out side s.point s.facts n) packet (let_out-is side s.point s.facts n (Noticed notice) is) there)
text_of_fact side s n (Nominated document) packet legal fits is there outwards =
    let message = messages.Acknow (acknow_of document) in
    let packet_is = to_user document.portfolio message in
    let same = one_there (let_out side s.point s.facts n) packet_is packet (let_out-is side s.point s.facts n (Nominated document) is) there in
    let reads = read_back message (acknow-fits document (fact-fits side s.point s.facts n (Nominated document) fits is)) tt in
    subst IsTextForPortfolio same (record { message = message; for_portfolio = tt; written = refl; reads = reads })
text_of_fact side s n (Closed id rule) packet legal fits is there outwards = absurd (text_on_closing side s n id rule packet is there outwards)
text_of_fact side s n (Met id peer) packet legal fits is there outwards =
    let cycle = matched_of (frozen_cycle side s.facts id) peer in
    let all = fact_meets side s.point s.facts n id peer legal.legal is in
    let state : state_of side s.facts id ≡ Matched cycle = state-closed side s.facts id all.0 ∙ ap (met_by (frozen_cycle side s.facts id)) all.1 in
    let matched = subst (λ (met : Option TableContents). FitsState side (met_by (frozen_cycle side s.facts id) met)) all.1 (closed_fits side s.point s.facts id fits all.0) in
    let out = meeting_lets_out side s.point s.facts n id peer cycle legal.legal is (sym state) in
    let found = in_from_contains packet (sent (on_met side s.point cycle) ++ told_packets side s.point cycle) (subst (λ (packets : List Packet). Contains packets packet) (sym out) there) in
    text_on_meeting side s.point cycle packet fits.point matched (from_append packet (sent (on_met side s.point cycle)) (told_packets side s.point cycle) found) outwards

pub text-for_portfolio : (is_so : Packet → Bool) (side : Side) (s : DeskState) (packet : Packet) → IsLegal side s → FitsDesk side s.point s.facts → IsLetOut is_so side s packet
    → is_for_peer packet ≡ false → IsTextForPortfolio packet
text-for_portfolio is_so side s packet legal fits is outwards =
    let to = is.to in
    let within = legal.within in
    let fact = some_fact s.facts is.n is.from (omega (arith, to, within)) in
    text_of_fact side s is.n fact.0 packet legal fits fact.1 is.let_out_by outwards

-- What a frozen table reads, from the nomination in force.
use Rattle.std.proofs.Common.{arith, ◌≡◌, ◌<◌, ◌≤◌, ◌-◌, ℕ, List, [], ◌∷◌, ◌++◌, length, map, find, fold, slice_index, Bool, true, false, cond, ◌&&◌, ◌||◌, nat_eq, nat_le, nat_lt, Option, Some, None, inl, inr, refl, sym, ap, ◌∙◌, subst}
use Rattle.std.specs.List.{flat_map, list_any}
use Rattle.std.specs.Str.{bytes_eq}
use Rattle.std.proofs.lemmas.Bool.{and_from, and_parts, lt-ltb}
use Rattle.std.proofs.lemmas.Bool.Decides.{nat_tests}
use Rattle.std.proofs.lemmas.List.FromFn.{get_or-map-range_with_len}
use Rattle.std.proofs.lemmas.Option.{same_Some}
use Rattle.std.proofs.lemmas.Slice.Eq.{bytes_eq-Decides}
use Rattle.jiff_core.specs.declared.civil.date.Date.{Date}
use Rattle.gi_day.specs.Cycles.{cycle_count, first_hour, hour_count}
use Rattle.gi_day.specs.SameDay.{same_day}
use Rattle.gi_pairs.specs.Direction.{place_of}
use Rattle.gi_pairs.specs.Pair.{code_at, pair_of}
use Rattle.gi_pairs.specs.Row.{key_of}
use Rattle.gi_pairs.specs.Side.{other}
use Rattle.gi_pairs.specs.Table.{IsTable, TableContents, covered, is_at}
use Rattle.gi_pairs.specs.declared.cycle_id.CycleId.{CycleId}
use Rattle.gi_pairs.specs.declared.direction.Direction.{Direction}
use Rattle.gi_pairs.specs.declared.direction.Direction.TheVariants.{IM, MI}
use Rattle.gi_pairs.specs.declared.key.Key.{Key}
use Rattle.gi_pairs.specs.declared.pair.Pair.{Pair}
use Rattle.gi_pairs.specs.declared.row.Row.{Row}
use Rattle.gi_pairs.specs.declared.side.Side.{Side}
use Rattle.gi_pairs.specs.declared.side.Side.TheVariants.{I, M}
use Rattle.gi_pairs.proofs.Building.{In, in_in_order, in_order_in}
use Rattle.gi_pairs.proofs.Members.{find_member, found_is, from_append, from_map, in_append_left, in_append_right, in_map}
use Rattle.gi_pairs.proofs.Reading.{reading-found, reading-missed, reading-outside}
use Rattle.gi_messages.specs.declared.nomination_line.NominationLine.{NominationLine}
use Rattle.gi_messages.specs.declared.message.Nomint.{Nomint}
use Rattle.gi_nominations.specs.Book.{in_force}
use Rattle.gi_processing.specs.Capacity.{Capacity, is_of, knows}
use Rattle.gi_processing.specs.Processing.{AreSound, lines_in_force, lines_of, portfolio_rows, processed, processed_in, processed_row, processed_rows, span_of, span_table}
use Rattle.gi_processing.specs.Recording.{portfolios_of, with_portfolio}
use Rattle.gi_processing.specs.Reduction.{is_in}
use Rattle.gi_processing.specs.declared.contract.Contract.{Contract}
use Rattle.gi_facts.proofs.SameLemmas.{same_cycle-is}
use Rattle.gi_facts.specs.declared.fact.Fact.{Fact}
use Rattle.gi_facts.specs.declared.fact.Fact.TheVariants.{Contracted, Noticed, Nominated, Closed, Met}
use Rattle.gi_processing.specs.declared.rule.Rule.{Rule}
use Rattle.gi_processing.specs.declared.rule.Rule.TheVariants.{Two}
use Rattle.gi_cycles.specs.States.{FrozenCycle}
use Rattle.gi_desk.specs.History.{frozen_cycle, frozen_table, is_closed, is_closing, met_by, peer_of, rule_of}
use Rattle.gi_desk.specs.Machine.{bad_fact, bad_from, most_facts, would_record}
use Rattle.gi_desk.specs.Writable.{FitsDesk, FitsState}
use Rattle.gi_desk.proofs.CycleLaws.{recorded-below}
use Rattle.gi_desk.proofs.Fitting.{state-fits}
use Rattle.gi_desk.proofs.Legality.{legal-first, legal-front, legal-sound}
use Rattle.gi_desk.proofs.StateLaws.{state-closed}
use Rattle.gi_explanations.specs.Basis.{asked_rule, counted_capacity, counted_documents, nominated_line, standing_nomination}
use Rattle.gi_explanations.specs.Numbers.{counterparty, counting, own}
use Rattle.gi_explanations.specs.Outcome.{read_at}
use Rattle.gi_explanations.specs.Reduction.{is_covered, processed_line_by, processed_quantity}
use Rattle.gi_explanations.specs.Sums.{is_line}
use Rattle.gi_explanations.specs.declared.question.Question.{Question}
use Rattle.gi_explanations.proofs.NumberLemmas.{front-taken, skipped}
use Rattle.gi_explanations.proofs.ReductionLemmas.{found-for}

-- ---- a closed cycle is one of its gas day

closing-below : (side : Side) (point : List ℕ) (before : List Fact) (fact : Fact) (id : CycleId) → is_closing id fact ≡ true → would_record side point before fact ≡ true
    → id.cycle < cycle_count id.day
closing-below side point before (Contracted contract) id is e = absurd cc
closing-below side point before (Noticed notice) id is e = absurd cc
closing-below side point before (Nominated document) id is e = absurd cc
closing-below side point before (Closed closed rule) id is e =
    subst (λ (cycle : CycleId). cycle.cycle < cycle_count cycle.day) (same_cycle-is closed id is) (recorded-below side point before closed rule e)
closing-below side point before (Met met peer) id is e = absurd cc

below-by : (side : Side) (point : List ℕ) (before : List Fact) (fact : Fact) (later : List Fact) (id : CycleId) (b : Bool) → is_closing id fact ≡ b
    → would_record side point before fact ≡ true → (b || list_any (is_closing id) later) ≡ true → (list_any (is_closing id) later ≡ true → id.cycle < cycle_count id.day)
    → id.cycle < cycle_count id.day
below-by side point before fact later id true is recorded any rest = closing-below side point before fact id is recorded
below-by side point before fact later id false is recorded any rest = rest any

below-from : (side : Side) (point : List ℕ) (before later : List Fact) (id : CycleId) → bad_from side point before later ≡ None → list_any (is_closing id) later ≡ true
    → id.cycle < cycle_count id.day
below-from side point before [] id e any = absurd cc
below-from side point before (fact ∷ later) id e any =
    let first = legal-first side point before fact later e in
    below-by side point before fact later id (is_closing id fact) refl (and_parts (would_record side point before fact) (nat_lt (length before) most_facts) first.0).0 any
    (below-from side point (before ++ fact ∷ []) later id first.1)

closed-below : (side : Side) (point : List ℕ) (facts : List Fact) (id : CycleId) → bad_fact side point facts ≡ None → is_closed id facts ≡ true → id.cycle < cycle_count id.day
unfolding bad_fact is_closed
closed-below side point facts id legal closed = below-from side point [] facts id legal closed

-- ---- its frozen table is a table

own-table : (side : Side) (cycle : FrozenCycle) (met : Option TableContents) → FitsState side (met_by cycle met) → IsTable cycle.own
own-table side cycle None fits = fits.own.table
own-table side cycle (Some peer) fits = fits.own.table

pub frozen-is-table : (side : Side) (point : List ℕ) (facts : List Fact) (id : CycleId) → FitsDesk side point facts → is_closed id facts ≡ true → IsTable (frozen_table side facts id)
frozen-is-table side point facts id fits closed =
    own-table side (frozen_cycle side facts id) (peer_of id facts) (subst (FitsState side) (state-closed side facts id closed) (state-fits side facts id fits.states closed))

-- ---- a portfolio that is known has rows

among : (portfolio : List ℕ) (portfolios : List (List ℕ)) → list_any (bytes_eq portfolio) portfolios ≡ true → In portfolio portfolios
among portfolio [] e = absurd cc
among portfolio (p ∷ ps) e = by_test (bytes_eq portfolio p) refl e (among portfolio ps)
  where
    by_test : (b : Bool) → bytes_eq portfolio p ≡ b → (b || list_any (bytes_eq portfolio) ps) ≡ true → (list_any (bytes_eq portfolio) ps ≡ true → In portfolio ps) → In portfolio (p ∷ ps)
    by_test true is so later = inl (sym ((bytes_eq-Decides portfolio p).0 is))
    by_test false is so later = inr (later so)

added : (portfolios : List (List ℕ)) (p : List ℕ) → In p (with_portfolio portfolios p)
added portfolios p = by (list_any (bytes_eq p) portfolios) refl
  where
    by : (b : Bool) → list_any (bytes_eq p) portfolios ≡ b → In p (cond b portfolios (portfolios ++ p ∷ []))
    by true is = among p portfolios is
    by false is = in_append_right p portfolios (p ∷ []) (inl refl)

stays : (portfolios : List (List ℕ)) (p x : List ℕ) → In p portfolios → In p (with_portfolio portfolios x)
stays portfolios p x there = by (list_any (bytes_eq x) portfolios)
  where
    by : (b : Bool) → In p (cond b portfolios (portfolios ++ x ∷ []))
    by true = there
    by false = in_append_left p portfolios (x ∷ []) there

stays-all : (portfolios more : List (List ℕ)) (p : List ℕ) → In p portfolios → In p (fold with_portfolio portfolios more)
stays-all portfolios [] p there = there
stays-all portfolios (x ∷ more) p there = stays-all (with_portfolio portfolios x) more p (stays portfolios p x there)

known-in : (portfolios : List (List ℕ)) (portfolio : List ℕ) (day : Date) (contracts : List Contract) → list_any (is_of portfolio day) contracts ≡ true
    → In portfolio (fold with_portfolio portfolios (map (λ contract. contract.portfolio) contracts))
known-in portfolios portfolio day [] e = absurd cc
known-in portfolios portfolio day (c ∷ cs) e = by (is_of portfolio day c) refl e (known-in (with_portfolio portfolios c.portfolio) portfolio day cs)
  where
    all : List (List ℕ)
    all = fold with_portfolio (with_portfolio portfolios c.portfolio) (map (λ (contract : Contract). contract.portfolio) cs)

    by : (b : Bool) → is_of portfolio day c ≡ b → (b || list_any (is_of portfolio day) cs) ≡ true → (list_any (is_of portfolio day) cs ≡ true → In portfolio all) → In portfolio all
    by true is so later =
        let same = (bytes_eq-Decides c.portfolio portfolio).0 (and_parts (bytes_eq c.portfolio portfolio) (same_day c.day day) is).0 in
        subst (λ (p : List ℕ). In p all) same
        (stays-all (with_portfolio portfolios c.portfolio) (map (λ (contract : Contract). contract.portfolio) cs) c.portfolio (added portfolios c.portfolio))
    by false is so later = later so

known-there : (contracts : List Contract) (day : Date) (portfolio : List ℕ) → knows portfolio day contracts ≡ true → In portfolio (portfolios_of contracts)
unfolding knows portfolios_of
known-there contracts day portfolio e = known-in [] portfolio day contracts e

in_flat_map : {X Y : Type 0} (f : X → List Y) (x : X) (y : Y) (xs : List X) → In x xs → In y (f x) → In y (flat_map f xs)
in_flat_map f x y [] h k = absurd h
in_flat_map f x y (z ∷ zs) (inl is) k = in_append_left y (f z) (flat_map f zs) (subst (λ w. In y (f w)) (sym is) k)
in_flat_map f x y (z ∷ zs) (inr h) k = in_append_right y (f z) (flat_map f zs) (in_flat_map f x y zs h k)

from_flat_map : {X Y : Type 0} (f : X → List Y) (y : Y) (xs : List X) → In y (flat_map f xs) → (x : X) × (In x xs) × (In y (f x))
from_flat_map f y [] h = absurd h
from_flat_map f y (x ∷ xs) h =
    elim (from_append y (f x) (flat_map f xs) h) [
      | inl here ↦ (x, inl refl, here)
      | inr later ↦ let found = from_flat_map f y xs later in (found.0, inr found.1, found.2)
    ]

-- ---- the row of a line

row-there : (capacity : Capacity) (side : Side) (day : Date) (cycle : ℕ) (rule : Rule) (documents : List Nomint) (portfolio : List ℕ) (l : NominationLine) → knows portfolio day capacity.contracts ≡ true
    → In l (lines_of (in_force portfolio day documents))
    → In (processed_row capacity (span_of side day cycle rule) portfolio (lines_of (in_force portfolio day documents)) l) (span_table capacity (span_of side day cycle rule) documents).rows
unfolding portfolio_rows lines_in_force
row-there capacity side day cycle rule documents portfolio l known there =
    let span = span_of side day cycle rule in
    let lines = lines_of (in_force portfolio day documents) in
    let row = processed_row capacity span portfolio lines l in
    in_order_in row (processed_rows capacity span documents)
    (in_flat_map (portfolio_rows capacity span documents) portfolio row (portfolios_of capacity.contracts) (known-there capacity.contracts day portfolio known)
    (in_map (processed_row capacity span portfolio lines) l lines there))

-- and what a row is of
pub record IsRowOf (capacity : Capacity) (side : Side) (day : Date) (cycle : ℕ) (rule : Rule) (documents : List Nomint) (row : Row) : Type 0 where
  pub portfolio : List ℕ
  pub source : NominationLine
  pub there : In source (lines_of (in_force portfolio day documents))
  pub is : processed_row capacity (span_of side day cycle rule) portfolio (lines_of (in_force portfolio day documents)) source ≡ row

row-of : (capacity : Capacity) (side : Side) (day : Date) (cycle : ℕ) (rule : Rule) (documents : List Nomint) (row : Row) → In row (span_table capacity (span_of side day cycle rule) documents).rows
    → IsRowOf capacity side day cycle rule documents row
unfolding portfolio_rows lines_in_force
row-of capacity side day cycle rule documents row there =
    let span = span_of side day cycle rule in
    let found = from_flat_map (portfolio_rows capacity span documents) row (portfolios_of capacity.contracts) (in_in_order row (processed_rows capacity span documents) there) in
    let lines = lines_of (in_force found.0 day documents) in
    let made = from_map (processed_row capacity span found.0 lines) row lines found.2 in
    record { portfolio = found.0; source = made.0; there = made.1; is = made.2 }

-- ---- what the table reads

abbrev keyed : Pair → Direction → Key
keyed pair direction = record { pair = pair; direction = direction }

paired : (side : Side) (pair : Pair) → pair_of side (code_at side pair) (code_at (other side) pair) ≡ pair
paired I pair = refl
paired M pair = refl

key-of-row : (capacity : Capacity) (side : Side) (day : Date) (cycle : ℕ) (rule : Rule) (portfolio : List ℕ) (lines : List NominationLine) (l : NominationLine)
    → key_of (processed_row capacity (span_of side day cycle rule) portfolio lines l) ≡ keyed (pair_of side portfolio l.counterparty) l.direction
unfolding processed_row
key-of-row capacity side day cycle rule portfolio lines l = refl

row-quantity : (capacity : Capacity) (side : Side) (day : Date) (cycle : ℕ) (rule : Rule) (portfolio : List ℕ) (lines : List NominationLine) (l : NominationLine) (hour : ℕ) → first_hour day cycle ≤ hour → hour ≤ hour_count day
    → slice_index (processed_row capacity (span_of side day cycle rule) portfolio lines l).hours (hour - first_hour day cycle) ≡ processed_in rule capacity portfolio day lines l hour
unfolding processed_row
row-quantity capacity side day cycle rule portfolio lines l hour low high =
    let first = first_hour day cycle in
    get_or-map-range_with_len (processed_in rule capacity portfolio day lines l) first (covered first (hour_count day)) (hour - first) hour 0 (omega arith) (omega arith)

found-there : (p : NominationLine → Bool) (lines : List NominationLine) (l : NominationLine) → find p lines ≡ Some l → In l lines
found-there p [] l e = absurd cc
found-there p (x ∷ xs) l e = by (p x) e (found-there p xs l)
  where
    by : (b : Bool) → cond b (Some x) (find p xs) ≡ Some l → (find p xs ≡ Some l → In l xs) → In l (x ∷ xs)
    by true e rest = inl (same_Some x l e)
    by false e rest = inr (rest e)

-- the row for the key of a line
row-found : (capacity : Capacity) (side : Side) (cycle : ℕ) (rule : Rule) (documents : List Nomint) (q : Question) (l : NominationLine) (table : TableContents)
    → table ≡ span_table capacity (span_of side q.id.day cycle rule) documents → IsTable table → knows (own side q) q.id.day capacity.contracts ≡ true
    → nominated_line side q (in_force (own side q) q.id.day documents) ≡ Some l
    → find (is_at (keyed q.pair q.direction)) table.rows
    ≡ Some (processed_row capacity (span_of side q.id.day cycle rule) (own side q) (lines_of (in_force (own side q) q.id.day documents)) l)
row-found capacity side cycle rule documents q l table table_is sound known found =
    let lines = lines_of (in_force (own side q) q.id.day documents) in
    let row = processed_row capacity (span_of side q.id.day cycle rule) (own side q) lines l in
    let is = found-for (counterparty side q) q.direction lines l found in
    let code_is = is.code_is in
    let direction_is = is.direction_is in
    let there : In row table.rows =
    subst (λ (t : TableContents). In row t.rows) (sym table_is)
    (row-there capacity side q.id.day cycle rule documents (own side q) l known (found-there (is_line (counterparty side q) q.direction) lines l found)) in
    let pair_is : pair_of side (own side q) l.counterparty ≡ q.pair = ap (pair_of side (own side q)) code_is ∙ paired side q.pair in
    let keys : keyed (pair_of side (own side q) l.counterparty) l.direction ≡ keyed q.pair q.direction =
    λ t. keyed (pair_is t) (direction_is t) in
    let key_is = key-of-row capacity side q.id.day cycle rule (own side q) lines l ∙ keys in
    subst (λ (k : Key). find (is_at k) table.rows ≡ Some row) key_is (find_member table.rows row sound.sorted there)

coded : (side : Side) (portfolio code : List ℕ) → code_at side (pair_of side portfolio code) ≡ portfolio
coded I portfolio code = refl
coded M portfolio code = refl

coded-other : (side : Side) (portfolio code : List ℕ) → code_at (other side) (pair_of side portfolio code) ≡ code
coded-other I portfolio code = refl
coded-other M portfolio code = refl

direction-self : (direction : Direction) → nat_eq (place_of direction) (place_of direction) ≡ true
direction-self IM = refl
direction-self MI = refl

line-passes : (code : List ℕ) (direction : Direction) (l : NominationLine) → l.counterparty ≡ code → l.direction ≡ direction → is_line code direction l ≡ true
line-passes code direction l code_is direction_is =
    and_from (bytes_eq l.counterparty code) (is_in direction l) ((bytes_eq-Decides l.counterparty code).1 code_is)
    (ap (λ (d : Direction). nat_eq (place_of d) (place_of direction)) direction_is ∙ direction-self direction)

none-passes : (p : NominationLine → Bool) (lines : List NominationLine) (l : NominationLine) → find p lines ≡ None → In l lines → p l ≡ true → ⊥
none-passes p [] l none there passes = there
none-passes p (x ∷ xs) l none (inl same) passes = let here : p x ≡ true = ap p same ∙ passes in let found : find p (x ∷ xs) ≡ Some x = rw here refl in cc
none-passes p (x ∷ xs) l none (inr there) passes = by (p x) none (λ e. none-passes p xs l e there passes)
  where
    by : (b : Bool) → cond b (Some x) (find p xs) ≡ None → (find p xs ≡ None → ⊥) → ⊥
    by true e rest = cc
    by false e rest = rest e

-- a row for the key is of a line for the counterparty and direction
row-lined : (capacity : Capacity) (side : Side) (cycle : ℕ) (rule : Rule) (documents : List Nomint) (q : Question) (row : Row)
    → In row (span_table capacity (span_of side q.id.day cycle rule) documents).rows → key_of row ≡ keyed q.pair q.direction
    → nominated_line side q (in_force (own side q) q.id.day documents) ≡ None → ⊥
row-lined capacity side cycle rule documents q row there key_is none =
    let of = row-of capacity side q.id.day cycle rule documents row there in
    let l = of.source in
    let lines = lines_of (in_force of.portfolio q.id.day documents) in
    let keys : keyed (pair_of side of.portfolio l.counterparty) l.direction ≡ keyed q.pair q.direction =
    sym (key-of-row capacity side q.id.day cycle rule of.portfolio lines l) ∙ ap key_of of.is ∙ key_is in
    let portfolio_is : of.portfolio ≡ own side q = sym (coded side of.portfolio l.counterparty) ∙ ap (λ (k : Key). code_at side k.pair) keys in
    let code_is : l.counterparty ≡ counterparty side q = sym (coded-other side of.portfolio l.counterparty) ∙ ap (λ (k : Key). code_at (other side) k.pair) keys in
    let direction_is : l.direction ≡ q.direction = ap (λ (k : Key). k.direction) keys in
    let in_own : In l (lines_of (in_force (own side q) q.id.day documents)) = subst (λ (p : List ℕ). In l (lines_of (in_force p q.id.day documents))) portfolio_is of.there in
    none-passes (is_line (counterparty side q) q.direction) (lines_of (in_force (own side q) q.id.day documents)) l none in_own
    (line-passes (counterparty side q) q.direction l code_is direction_is)

row-missed : (capacity : Capacity) (side : Side) (cycle : ℕ) (rule : Rule) (documents : List Nomint) (q : Question) (table : TableContents)
    → table ≡ span_table capacity (span_of side q.id.day cycle rule) documents → nominated_line side q (in_force (own side q) q.id.day documents) ≡ None
    → find (is_at (keyed q.pair q.direction)) table.rows ≡ None
row-missed capacity side cycle rule documents q table table_is none = by (find (is_at (keyed q.pair q.direction)) table.rows) refl
  where
    by : (o : Option Row) → find (is_at (keyed q.pair q.direction)) table.rows ≡ o → o ≡ None
    by None e = refl
    by (Some row) e =
        let found = found_is table.rows (keyed q.pair q.direction) row e in
        absurd (row-lined capacity side cycle rule documents q row (subst (λ (t : TableContents). In row t.rows) table_is found.0) found.1 none)

-- ---- the processed quantity is what the frozen table reads

table-is : (side : Side) (facts : List Fact) (q : Question) → frozen_table side facts q.id ≡ span_table (counted_capacity facts q) (span_of side q.id.day q.id.cycle (rule_of q.id facts)) (counted_documents facts q)
unfolding frozen_table processed
table-is side facts q = refl

known-by : (side : Side) (facts : List Fact) (q : Question) (o : Option Nomint) (l : NominationLine) → AreSound (counted_capacity facts q) (counted_documents facts q) q.id.day → standing_nomination side facts q ≡ o
    → nominated_line side q o ≡ Some l → knows (own side q) q.id.day (counted_capacity facts q).contracts ≡ true
known-by side facts q None l sound e found = absurd cc
known-by side facts q (Some document) l sound e found = (sound (own side q) document e).known

pub front-sound : (side : Side) (point : List ℕ) (facts : List Fact) (q : Question) → bad_fact side point facts ≡ None → AreSound (counted_capacity facts q) (counted_documents facts q) q.id.day
front-sound side point facts q legal =
    legal-sound side point (counting facts q.id) q.id.day
    (subst (λ (fs : List Fact). bad_fact side point fs ≡ None) (front-taken (is_closing q.id) facts) (legal-front side point facts (skipped (is_closing q.id) facts) legal))

-- in the covered hours
inside : (side : Side) (facts : List Fact) (q : Question) (o : Option NominationLine) → AreSound (counted_capacity facts q) (counted_documents facts q) q.id.day → IsTable (frozen_table side facts q.id)
    → (nat_le (first_hour q.id.day q.id.cycle) q.hour && nat_le q.hour (hour_count q.id.day)) ≡ true → nominated_line side q (standing_nomination side facts q) ≡ o
    → processed_line_by (rule_of q.id facts) side facts q o ≡ read_at q (frozen_table side facts q.id)
inside side facts q None sound is_table covered found =
    sym (reading-missed (frozen_table side facts q.id) q.pair q.direction q.hour
    (row-missed (counted_capacity facts q) side q.id.cycle (rule_of q.id facts) (counted_documents facts q) q (frozen_table side facts q.id) (table-is side facts q) found))
inside side facts q (Some l) sound is_table covered found =
    let table = frozen_table side facts q.id in
    let is = table-is side facts q in
    let first_is : table.first ≡ first_hour q.id.day q.id.cycle = ap (λ (t : TableContents). t.first) is in
    let last_is : table.last ≡ hour_count q.id.day = ap (λ (t : TableContents). t.last) is in
    let covered_here : (nat_le table.first q.hour && nat_le q.hour table.last) ≡ true = (λ t. nat_le (first_is t) q.hour && nat_le q.hour (last_is t)) ∙ covered in
    let low : first_hour q.id.day q.id.cycle ≤ q.hour = grind (arith, nat_tests, covered) in
    let high : q.hour ≤ hour_count q.id.day = grind (arith, nat_tests, covered) in
    let lines = lines_of (standing_nomination side facts q) in
    let row = processed_row (counted_capacity facts q) (span_of side q.id.day q.id.cycle (rule_of q.id facts)) (own side q) lines l in
    sym (reading-found table q.pair q.direction q.hour row
    (row-found (counted_capacity facts q) side q.id.cycle (rule_of q.id facts) (counted_documents facts q) q l table is is_table (known-by side facts q (standing_nomination side facts q) l sound refl found) found) covered_here
    ∙ ap (λ first. slice_index row.hours (q.hour - first)) first_is
    ∙ row-quantity (counted_capacity facts q) side q.id.day q.id.cycle (rule_of q.id facts) (own side q) lines l q.hour low high)

pub frozen-reads : (side : Side) (point : List ℕ) (facts : List Fact) (q : Question) → bad_fact side point facts ≡ None → FitsDesk side point facts
    → is_closed q.id facts ≡ true → processed_quantity side facts q ≡ read_at q (frozen_table side facts q.id)
unfolding processed_quantity
frozen-reads side point facts q legal fits closed = ap (λ (rule : Rule). cond (is_covered q) (processed_line_by rule side facts q line) 0) rule_is ∙ ap (λ (b : Bool). cond b quantity 0) covered_is ∙ by inner refl
  where
    line : Option NominationLine
    line = nominated_line side q (standing_nomination side facts q)

    -- the rule is that of the closing
    rule_is : asked_rule facts q ≡ rule_of q.id facts
    rule_is = ap (λ (b : Bool). cond b (rule_of q.id facts) Two) closed

    quantity : ℕ
    quantity = processed_line_by (rule_of q.id facts) side facts q line

    inner : Bool
    inner = nat_le (first_hour q.id.day q.id.cycle) q.hour && nat_le q.hour (hour_count q.id.day)

    covered_is : is_covered q ≡ inner
    covered_is =
        ap (λ (b : Bool). b && nat_le (first_hour q.id.day q.id.cycle) q.hour && nat_le q.hour (hour_count q.id.day))
        (lt-ltb q.id.cycle (cycle_count q.id.day) (closed-below side point facts q.id legal closed))

    by : (b : Bool) → inner ≡ b → cond b quantity 0 ≡ read_at q (frozen_table side facts q.id)
    by true covered =
        inside side facts q (nominated_line side q (standing_nomination side facts q)) (front-sound side point facts q legal) (frozen-is-table side point facts q.id fits closed) covered refl
    by false covered =
        let is = table-is side facts q in
        let first_is : (frozen_table side facts q.id).first ≡ first_hour q.id.day q.id.cycle = ap (λ (t : TableContents). t.first) is in
        let last_is : (frozen_table side facts q.id).last ≡ hour_count q.id.day = ap (λ (t : TableContents). t.last) is in
        sym (reading-outside (frozen_table side facts q.id) q.pair q.direction q.hour ((λ t. nat_le (first_is t) q.hour && nat_le q.hour (last_is t)) ∙ covered))

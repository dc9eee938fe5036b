-- The last fact that is so records what stands.
use Rattle.std.proofs.Common.{arith, ◌≡◌, ◌<◌, ◌≤◌, ◌+◌, ◌-◌, ℕ, zero, suc, List, [], ◌∷◌, ◌++◌, length, drop, reverse, find, filter_map, Bool, true, false, cond, ◌||◌, Option, Some, None, is_some, refl, sym, ap, ◌∙◌, subst, append-nil, unwrap_or}
use Rattle.std.specs.Prelude.{IfSome, slice_get}
use Rattle.std.specs.Borrow.{Bor}
use Rattle.std.specs.List.{cons_option, list_any}
use Rattle.std.specs.Option.{option_and_then, option_copied, option_map_or}
use Rattle.std.proofs.lemmas.List.{get_or-reverse, length-reverse, reverse-append, take-append-drop}
use Rattle.std.proofs.lemmas.List.Elements.{filter_map-append}
use Rattle.std.proofs.lemmas.Option.{slice_get-get_or, slice_get_past}
use Rattle.gi_pairs.specs.Table.{TableContents}
use Rattle.gi_pairs.specs.declared.cycle_id.CycleId.{CycleId}
use Rattle.gi_pairs.specs.declared.side.Side.{Side}
use Rattle.gi_messages.specs.declared.message.Nomint.{Nomint}
use Rattle.gi_nominations.specs.Book.{in_force, is_of}
use Rattle.gi_nominations.specs.Lines.{most_lines}
use Rattle.gi_nominations.proofs.LinesLaws.{without_fault}
use Rattle.gi_day.specs.Cycles.{hour_count}
use Rattle.gi_processing.specs.Capacity.{contract_of, covers, is_for, notice_of}
use Rattle.gi_processing.specs.Processing.{AreSound}
use Rattle.gi_processing.specs.declared.contract.Contract.{Contract}
use Rattle.gi_processing.specs.declared.notice.Notice.{Notice}
use Rattle.gi_processing.specs.declared.rule.Rule.{Rule}
use Rattle.gi_processing.specs.declared.rule.Rule.TheVariants.{One, Two}
use Rattle.gi_facts.specs.declared.fact.Fact.{Fact}
use Rattle.gi_desk.specs.History.{capacity_of, contract_in, document_in, documents_of, facts_before, is_closed, is_closing, is_meeting, notice_in, number_of, peer_in, peer_of, rule_in, rule_of}
use Rattle.gi_desk.specs.Machine.{bad_fact}
use Rattle.gi_desk.specs.Queries.{fact_at}
use Rattle.gi_desk.proofs.Confirmed.{a_peer, peer_later, peer_none}
use Rattle.gi_desk.proofs.Legality.{legal-front, legal-sound}
use Rattle.gi_explanations.specs.Basis.{asked_rule, counted_capacity, counted_documents, standing_contract, standing_nomination, standing_notice}
use Rattle.gi_explanations.specs.Laws.{NamesTheFacts}
use Rattle.gi_explanations.specs.Numbers.{counting, first_number, is_contract, is_nomination, is_notice, last_number, numbers, own}
use Rattle.gi_explanations.specs.declared.numbers.Numbers.{Numbers}
use Rattle.gi_explanations.specs.declared.question.Question.{Question}
use Rattle.gi_explanations.proofs.NumberLemmas.{Test, front-taken, none-before, numbered, skipped, skipped-cons}

-- ---- what is found from the front

-- what a fact records passes a test
abbrev pub passes : {X : Type 0} → (Fact → Option X) → (X → Bool) → Fact → Bool
passes p t fact = option_map_or t (p fact) false

from-front : {X : Type 0} (p : Fact → Option X) (t : X → Bool) (facts : List Fact)
    → find t (filter_map p facts) ≡ option_and_then p (slice_get facts (skipped (passes p t) facts))
from-front p t [] = sym (ap (option_and_then p) (slice_get_past {X = Fact} [] (skipped (passes p t) []) (omega arith)))
from-front {X} p t (fact ∷ facts) =
    by (p fact) refl (from-front p t facts) ∙ ap (λ n. option_and_then p (slice_get (fact ∷ facts) n)) (sym (skipped-cons (passes p t) fact facts))
  where
    rest : ℕ
    rest = skipped (passes p t) facts

    by_test : (x : X) (b : Bool) → t x ≡ b → p fact ≡ Some x → find t (filter_map p facts) ≡ option_and_then p (slice_get facts rest)
        → cond b (Some x) (find t (filter_map p facts)) ≡ option_and_then p (slice_get (fact ∷ facts) (cond b 0 (suc rest)))
    by_test x true test e same = sym e
    by_test x false test e same = same

    by : (o : Option X) → p fact ≡ o → find t (filter_map p facts) ≡ option_and_then p (slice_get facts rest)
        → find t (cons_option o (filter_map p facts)) ≡ option_and_then p (slice_get (fact ∷ facts) (cond (option_map_or t o false) 0 (suc rest)))
    by None e same = same
    by (Some x) e same = by_test x (t x) refl e same

-- ---- what is found from the end

turned : {X : Type 0} (xs : List X) (k : ℕ) → k < length xs → slice_get (reverse xs) k ≡ slice_get xs (length xs - 1 - k)
turned [] k below = absurd (omega (arith, below))
turned (x ∷ xs) k below =
    let long = length-reverse (x ∷ xs) in
    slice_get-get_or (reverse (x ∷ xs)) k x (omega (arith, long, below)) ∙ ap Some (get_or-reverse (x ∷ xs) k x below)
    ∙ sym (slice_get-get_or (x ∷ xs) (length (x ∷ xs) - 1 - k) x (omega (arith, below)))

at-end : (facts : List Fact) (k m : ℕ) → m ≡ length facts + 1 - (k + 1) → slice_get (reverse facts) k ≡ fact_at facts m
at-end facts k zero e = let long = length-reverse facts in slice_get_past (reverse facts) k (omega (arith, long, e))
at-end facts k (suc b) e =
    let place : length facts - 1 - k ≡ b = omega (arith, e) in
    turned facts k (omega (arith, e)) ∙ ap (slice_get facts) place

last-at : (is : Test) (facts : List Fact) → slice_get (reverse facts) (skipped is (reverse facts)) ≡ fact_at facts (last_number is facts)
unfolding last_number number_of
last-at is facts = at-end facts (skipped is (reverse facts)) (length facts + 1 - (skipped is (reverse facts) + 1)) refl

filter_map-turned : {X : Type 0} (p : Fact → Option X) (facts : List Fact) → filter_map p (reverse facts) ≡ reverse (filter_map p facts)
filter_map-turned p [] = refl
filter_map-turned {X} p (fact ∷ facts) =
    ap (filter_map p) (reverse-append (fact ∷ []) facts) ∙ filter_map-append p (reverse facts) (fact ∷ [])
    ∙ ap (λ (xs : List X). xs ++ filter_map p (fact ∷ [])) (filter_map-turned p facts) ∙ by (p fact)
  where
    by : (o : Option X) → reverse (filter_map p facts) ++ cons_option o [] ≡ reverse (cons_option o (filter_map p facts))
    by None = append-nil (reverse (filter_map p facts))
    by (Some x) = sym (reverse-append (x ∷ []) (filter_map p facts))

found-last : {X : Type 0} (p : Fact → Option X) (t : X → Bool) (facts : List Fact)
    → find t (reverse (filter_map p facts)) ≡ option_and_then p (fact_at facts (last_number (passes p t) facts))
found-last p t facts =
    ap (find t) (sym (filter_map-turned p facts)) ∙ from-front p t (reverse facts) ∙ ap (option_and_then p) (last-at (passes p t) facts)

-- ---- among all facts

front-get : {X : Type 0} (front more : List X) (i : ℕ) → i < length front → slice_get (front ++ more) i ≡ slice_get front i
front-get [] more i below = absurd (omega (arith, below))
front-get (x ∷ xs) more zero below = refl
front-get (x ∷ xs) more (suc i) below = front-get xs more i (omega (arith, below))

front-at : (front more : List Fact) (n : ℕ) → n ≤ length front → fact_at (front ++ more) n ≡ fact_at front n
front-at front more zero within = refl
front-at front more (suc i) within = front-get front more i (omega (arith, within))

last-within : (is : Test) (facts : List Fact) → last_number is facts ≤ length facts
unfolding last_number number_of
last-within is facts = omega arith

-- the last one before the first of another kind
in-front : (is before : Test) (facts : List Fact) → fact_at facts (last_number is (facts_before before facts)) ≡ fact_at (facts_before before facts) (last_number is (facts_before before facts))
in-front is before facts =
    let front = facts_before before facts in
    let n = last_number is front in
    let parts : front ++ drop (skipped before facts) facts ≡ facts =
    ap (λ (fs : List Fact). fs ++ drop (skipped before facts) facts) (sym (front-taken before facts)) ∙ take-append-drop (skipped before facts) facts in
    ap (λ (fs : List Fact). fact_at fs n) (sym parts) ∙ front-at front (drop (skipped before facts) facts) n (last-within is front)

-- ---- the nomination, the contract and the notice

pub nomination-found : (side : Side) (facts : List Fact) (q : Question) (n : Numbers) (found : Option Nomint) → n ≡ numbers side facts q
    → found ≡ option_and_then document_in (fact_at facts n.nomination) → found ≡ standing_nomination side facts q
unfolding numbers documents_of in_force
nomination-found side facts q n found n_is found_is =
    found_is ∙ ap (λ (m : Numbers). option_and_then document_in (fact_at facts m.nomination)) n_is
    ∙ ap (option_and_then document_in) (in-front (is_nomination (own side q) q.id.day) (is_closing q.id) facts)
    ∙ sym (found-last document_in (is_of (own side q) q.id.day) (counting facts q.id))

pub contract-found : (side : Side) (facts : List Fact) (q : Question) (n : Numbers) (found : Option Contract) → n ≡ numbers side facts q
    → found ≡ option_and_then contract_in (fact_at facts n.contract) → found ≡ standing_contract side facts q
unfolding numbers capacity_of contract_of
contract-found side facts q n found n_is found_is =
    found_is ∙ ap (λ (m : Numbers). option_and_then contract_in (fact_at facts m.contract)) n_is
    ∙ ap (option_and_then contract_in) (in-front (is_contract (own side q) q.id.day q.direction) (is_closing q.id) facts)
    ∙ sym (found-last contract_in (is_for (own side q) q.id.day q.direction) (counting facts q.id))

pub notice-found : (side : Side) (facts : List Fact) (q : Question) (n : Numbers) (found : Option Notice) → n ≡ numbers side facts q
    → found ≡ option_and_then notice_in (fact_at facts n.notice) → found ≡ standing_notice facts q
unfolding numbers capacity_of notice_of
notice-found side facts q n found n_is found_is =
    found_is ∙ ap (λ (m : Numbers). option_and_then notice_in (fact_at facts m.notice)) n_is
    ∙ ap (option_and_then notice_in) (in-front (is_notice q.id.day q.direction q.hour) (is_closing q.id) facts)
    ∙ sym (found-last notice_in (covers q.id.day q.direction q.hour) (counting facts q.id))

-- ---- a nomination in force has few lines

few-by : (side : Side) (point : List ℕ) (facts : List Fact) (q : Question) (o : Option Nomint) → AreSound (counted_capacity facts q) (counted_documents facts q) q.id.day
    → standing_nomination side facts q ≡ o → IfSome o (λ document. length document.lines ≤ most_lines)
few-by side point facts q None sound e = tt
few-by side point facts q (Some document) sound e =
    (without_fault (hour_count q.id.day) document.lines (sound (own side q) document e).lines).few

few-referred : (found : Option (Bor Nomint)) → IfSome (option_copied found) (λ document. length document.lines ≤ most_lines)
    → IfSome found (λ document. length document.now.lines ≤ most_lines)
few-referred None few = tt
few-referred (Some document) few = few

pub nomination-few : (side : Side) (point : List ℕ) (facts : List Fact) (q : Question) (found : Option (Bor Nomint)) → bad_fact side point facts ≡ None
    → option_copied found ≡ standing_nomination side facts q → IfSome found (λ document. length document.now.lines ≤ most_lines)
nomination-few side point facts q found legal found_is =
    let front : bad_fact side point (counting facts q.id) ≡ None =
    subst (λ (fs : List Fact). bad_fact side point fs ≡ None) (front-taken (is_closing q.id) facts) (legal-front side point facts (skipped (is_closing q.id) facts) legal) in
    few-referred found (few-by side point facts q (option_copied found) (legal-sound side point (counting facts q.id) q.id.day front) (sym found_is))

-- ---- the peer's table

peer-here : (id : CycleId) (fact : Fact) (facts : List Fact) → is_meeting id fact ≡ true → peer_of id (fact ∷ facts) ≡ peer_in id fact
unfolding peer_of
peer-here id fact facts e = let peer = a_peer id fact e in rw peer.1 refl

peer-front : (id : CycleId) (facts : List Fact) → peer_of id facts ≡ option_and_then (peer_in id) (slice_get facts (skipped (is_meeting id) facts))
peer-front id [] = peer_none id ∙ sym (ap (option_and_then (peer_in id)) (slice_get_past {X = Fact} [] (skipped (is_meeting id) []) (omega arith)))
peer-front id (fact ∷ facts) =
    by (is_meeting id fact) refl (peer-front id facts)
    ∙ ap (λ n. option_and_then (peer_in id) (slice_get (fact ∷ facts) n)) (sym (skipped-cons (is_meeting id) fact facts))
  where
    rest : ℕ
    rest = skipped (is_meeting id) facts

    by : (b : Bool) → is_meeting id fact ≡ b → peer_of id facts ≡ option_and_then (peer_in id) (slice_get facts rest)
        → peer_of id (fact ∷ facts) ≡ option_and_then (peer_in id) (slice_get (fact ∷ facts) (cond b 0 (suc rest)))
    by true e same = peer-here id fact facts e
    by false e same = peer_later id fact facts e ∙ same

peer-by : (id : CycleId) (facts : List Fact) (any : Bool) → list_any (is_meeting id) facts ≡ any
    → option_and_then (peer_in id) (fact_at facts (unwrap_or (cond any (Some (skipped (is_meeting id) facts + 1)) None) 0)) ≡ peer_of id facts
peer-by id facts true any = ap (option_and_then (peer_in id)) (numbered facts (skipped (is_meeting id) facts)) ∙ sym (peer-front id facts)
peer-by id facts false any =
    let all : length facts ≤ skipped (is_meeting id) facts = subst (λ (fs : List Fact). length facts ≤ length fs) (sym (none-before (is_meeting id) facts any)) (omega arith) in
    sym (peer-front id facts ∙ ap (option_and_then (peer_in id)) (slice_get_past facts (skipped (is_meeting id) facts) all))

pub peer-found : (side : Side) (facts : List Fact) (q : Question) (n : Numbers) (number : ℕ) (found : Option TableContents) → n ≡ numbers side facts q
    → number ≡ unwrap_or n.meeting 0 → found ≡ option_and_then (peer_in q.id) (fact_at facts number) → found ≡ peer_of q.id facts
unfolding numbers first_number number_of
peer-found side facts q n number found n_is number_is found_is =
    found_is ∙ ap (λ m. option_and_then (peer_in q.id) (fact_at facts m)) (number_is ∙ ap (λ (m : Numbers). unwrap_or m.meeting 0) n_is)
    ∙ peer-by q.id facts (list_any (is_meeting q.id) facts) refl

-- ---- the closing

-- the first fact that is so is so
there : (is : Test) (facts : List Fact) → list_any is facts ≡ true → option_map_or is (slice_get facts (skipped is facts)) false ≡ true
there is [] any = absurd cc
there is (fact ∷ facts) any =
    ap (λ n. option_map_or is (slice_get (fact ∷ facts) n) false) (skipped-cons is fact facts) ∙ by (is fact) refl any (there is facts)
  where
    by : (b : Bool) → is fact ≡ b → (b || list_any is facts) ≡ true
        → (list_any is facts ≡ true → option_map_or is (slice_get facts (skipped is facts)) false ≡ true)
        → option_map_or is (slice_get (fact ∷ facts) (cond b 0 (suc (skipped is facts)))) false ≡ true
    by true e any rest = e
    by false e any rest = rest any

closing-by : (id : CycleId) (facts : List Fact) (any : Bool) → list_any (is_closing id) facts ≡ any
    → IfSome (cond any (Some (skipped (is_closing id) facts + 1)) None) (λ number. option_map_or (is_closing id) (fact_at facts number) false ≡ true)
closing-by id facts true any =
    ap (λ (o : Option Fact). option_map_or (is_closing id) o false) (numbered facts (skipped (is_closing id) facts)) ∙ there (is_closing id) facts any
closing-by id facts false any = tt

-- the fact that is found first stands at its place
find-front : (is : Test) (facts : List Fact) → find is facts ≡ slice_get facts (skipped is facts)
find-front is [] = sym (slice_get_past {X = Fact} [] (skipped is []) (omega arith))
find-front is (fact ∷ facts) = by (is fact) (find-front is facts) ∙ ap (slice_get (fact ∷ facts)) (sym (skipped-cons is fact facts))
  where
    by : (b : Bool) → find is facts ≡ slice_get facts (skipped is facts) → cond b (Some fact) (find is facts) ≡ slice_get (fact ∷ facts) (cond b 0 (suc (skipped is facts)))
    by true rest = refl
    by false rest = rest

-- and the rule of the first closing is told there
rule-at : (id : CycleId) (facts : List Fact) → option_map_or rule_in (fact_at facts (skipped (is_closing id) facts + 1)) One ≡ rule_of id facts
unfolding rule_of
rule-at id facts = ap (λ (o : Option Fact). option_map_or rule_in o One) (numbered facts (skipped (is_closing id) facts) ∙ sym (find-front (is_closing id) facts))

rule-by : (id : CycleId) (facts : List Fact) (any : Bool)
    → IfSome (cond any (Some (skipped (is_closing id) facts + 1)) None) (λ number. option_map_or rule_in (fact_at facts number) One ≡ cond any (rule_of id facts) Two)
rule-by id facts true = rule-at id facts
rule-by id facts false = tt

-- the rule is found so
abbrev rule_shown : List Fact → Option ℕ → Rule
rule_shown facts None = Two
rule_shown facts (Some n) = option_map_or rule_in (fact_at facts n) One

shown-by : (id : CycleId) (facts : List Fact) (any : Bool) → rule_shown facts (cond any (Some (skipped (is_closing id) facts + 1)) None) ≡ cond any (rule_of id facts) Two
shown-by id facts true = rule-at id facts
shown-by id facts false = refl

pub rule-found : (side : Side) (facts : List Fact) (q : Question) (n : Numbers) (m : ℕ) (rule : Rule) → n ≡ numbers side facts q → n.closing ≡ Some m
    → rule ≡ option_map_or rule_in (fact_at facts m) One → rule ≡ asked_rule facts q
unfolding numbers first_number number_of is_closed
rule-found side facts q n m rule n_is closing_is rule_is =
    rule_is ∙ ap (rule_shown facts) (sym closing_is ∙ ap (λ (k : Numbers). k.closing) n_is) ∙ shown-by q.id facts (list_any (is_closing q.id) facts)

pub rule-open : (side : Side) (facts : List Fact) (q : Question) (n : Numbers) → n ≡ numbers side facts q → n.closing ≡ None → Two ≡ asked_rule facts q
unfolding numbers first_number number_of is_closed
rule-open side facts q n n_is closing_is =
    ap (rule_shown facts) (sym closing_is ∙ ap (λ (k : Numbers). k.closing) n_is) ∙ shown-by q.id facts (list_any (is_closing q.id) facts)

meeting-by : (id : CycleId) (facts : List Fact) (any : Bool) → list_any (is_meeting id) facts ≡ any
    → IfSome (cond any (Some (skipped (is_meeting id) facts + 1)) None) (λ number. option_and_then (peer_in id) (fact_at facts number) ≡ peer_of id facts)
meeting-by id facts true any = peer-by id facts true any
meeting-by id facts false any = tt

meets-any : (id : CycleId) (facts : List Fact) → list_any (is_meeting id) facts ≡ is_some (peer_of id facts)
meets-any id [] = ap is_some (sym (peer_none id))
meets-any id (fact ∷ facts) = by (is_meeting id fact) refl (meets-any id facts)
  where
    by : (b : Bool) → is_meeting id fact ≡ b → list_any (is_meeting id) facts ≡ is_some (peer_of id facts)
        → (b || list_any (is_meeting id) facts) ≡ is_some (peer_of id (fact ∷ facts))
    by true e rest = ap is_some (sym (peer-here id fact facts e ∙ (a_peer id fact e).1))
    by false e rest = rest ∙ ap is_some (sym (peer_later id fact facts e))

some_by : (b : Bool) (n : ℕ) → is_some (cond b (Some n) None) ≡ b
some_by true n = refl
some_by false n = refl

pub names-facts : (side : Side) (facts : List Fact) (q : Question) → NamesTheFacts side facts q (numbers side facts q)
unfolding numbers first_number number_of is_closed
names-facts side facts q =
    let n = numbers side facts q in
    record {
      nomination = nomination-found side facts q n (option_and_then document_in (fact_at facts n.nomination)) refl refl;
      contract = contract-found side facts q n (option_and_then contract_in (fact_at facts n.contract)) refl refl;
      notice = notice-found side facts q n (option_and_then notice_in (fact_at facts n.notice)) refl refl;
      closed = some_by (list_any (is_closing q.id) facts) (skipped (is_closing q.id) facts + 1);
      closing = closing-by q.id facts (list_any (is_closing q.id) facts) refl;
      rule = rule-by q.id facts (list_any (is_closing q.id) facts);
      met = some_by (list_any (is_meeting q.id) facts) (skipped (is_meeting q.id) facts + 1) ∙ meets-any q.id facts;
      meeting = meeting-by q.id facts (list_any (is_meeting q.id) facts) refl;
    }

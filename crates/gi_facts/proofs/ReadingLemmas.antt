-- A fact is read exactly where it stands in the relation.
use Rattle.std.proofs.Common.{◌≡◌, ℕ, Bool, true, false, cond, nat_eq, eqb-true, List, Option, Some, None, option_and_then, Result, Ok, Err, refl, sym, ap, ◌∙◌, subst}
use Rattle.std.specs.Prelude.{IfOk}
use Rattle.std.specs.Result.{result_ok}
use Rattle.std.specs.Str.{bytes_eq}
use Rattle.std.proofs.lemmas.Option.{option_and_then_some}
use Rattle.std.proofs.lemmas.Slice.Eq.{bytes_eq-Decides}
use Rattle.jiff_core.specs.declared.civil.date.Date.{Date}
use Rattle.serde_json.specs.Data.{Data, string}
use Rattle.gi_pairs.specs.Limits.{last_hour, most_processed_rows}
use Rattle.gi_pairs.specs.Quantity.{most_quantity}
use Rattle.gi_pairs.specs.Table.{TableContents}
use Rattle.gi_pairs.specs.declared.cycle_id.CycleId.{CycleId}
use Rattle.gi_pairs.specs.declared.direction.Direction.{Direction}
use Rattle.gi_messages.specs.Decoding.{nomint, kind_of as message_kind_of}
use Rattle.gi_messages.specs.Grammar.{Has, HasOr, IsText, IsWhole, HasTable}
use Rattle.gi_messages.specs.Json.{json_of}
use Rattle.gi_messages.specs.Limits.{last_cycle}
use Rattle.gi_messages.specs.Reading.{Read, ◌>>=◌, code, day, direction, number, number_or, span, table, wanted}
use Rattle.gi_messages.specs.declared.head.Span.{Span}
use Rattle.gi_messages.specs.declared.key.Key.TheVariants as keys
use Rattle.gi_messages.specs.declared.kind.Kind.{Kind as MessageKind}
use Rattle.gi_messages.specs.declared.kind.Kind.TheVariants as message_kinds
use Rattle.gi_messages.specs.declared.message.Nomint.{Nomint}
use Rattle.gi_messages.proofs.FieldLemmas.{Reads, Reads-code, Reads-day, Reads-direction, Reads-field, Reads-named, Reads-number, Reads-number_or, bind_ok, wanted_ok}
use Rattle.gi_messages.proofs.HeadLemmas.{Reads-span, made_span}
use Rattle.gi_messages.proofs.HoursLemmas.{ok_is}
use Rattle.gi_messages.proofs.MessageLemmas.{found_passes, kind_of-again, kind_of-takes}
use Rattle.gi_messages.proofs.NominationLemmas.{nomint_takes, nomint_again}
use Rattle.gi_messages.proofs.OrderLemmas.{for_its_hours}
use Rattle.gi_messages.proofs.TableLemmas.{table_takes, table_again}
use Rattle.gi_processing.specs.CapacityLimits.{most_permille}
use Rattle.gi_processing.specs.declared.contract.Contract.{Contract}
use Rattle.gi_processing.specs.Rule.{rule_number, rule_numbered}
use Rattle.gi_processing.specs.declared.notice.Notice.{Notice}
use Rattle.gi_processing.specs.declared.rule.Rule.{Rule}
use Rattle.gi_processing.specs.declared.rule.Rule.TheVariants.{One, Two}
use Rattle.gi_facts.specs.Decoding.{Gives, closing, contract, cycle_id, document, document_of, fact, fact_of, if_nomint, kind, meeting, notice, of_kind, of_value, peer_table, rule}
use Rattle.gi_facts.specs.Grammar.{HasRule, IsContract, IsCycleId, IsDocument, IsFact, IsNotice, IsOfKind, IsPeerTable, Spells}
use Rattle.gi_facts.specs.Kind.{kind_named, kind_text, kinds as all_kinds}
use Rattle.gi_facts.specs.declared.fact.Fact.{Fact}
use Rattle.gi_facts.specs.declared.fact.Fact.TheVariants as facts
use Rattle.gi_facts.specs.declared.fact_fault.FactFault.{FactFault}
use Rattle.gi_facts.specs.declared.kind.Kind.{Kind}
use Rattle.gi_facts.specs.declared.kind.Kind.TheVariants as kinds

-- ---- contracts

made_contract : List ℕ → Date → Direction → ℕ → ℕ → Contract
made_contract portfolio date direction firm interruptible = record { portfolio = portfolio; day = date; direction = direction; firm = firm; interruptible = interruptible }

contract_takes : (d : Data) (c : Contract) → contract d ≡ Ok c → IsContract d c
unfolding contract made_contract
contract_takes d c e =
    let fifth = λ (p : List ℕ) (w : Date) (x : Direction) (firm : ℕ). number 0 most_quantity keys.Interruptible d >>= λ interruptible. Ok (made_contract p w x firm interruptible) in
    let fourth = λ (p : List ℕ) (w : Date) (x : Direction). number 0 most_quantity keys.Firm d >>= fifth p w x in
    let third = λ (p : List ℕ) (w : Date). direction keys.Direction d >>= fourth p w in
    let second = λ (p : List ℕ). day keys.Day d >>= third p in
    let p = bind_ok (code keys.Portfolio d) second c e in
    let w = bind_ok (day keys.Day d) (third p.0) c p.2 in
    let x = bind_ok (direction keys.Direction d) (fourth p.0 w.0) c w.2 in
    let f = bind_ok (number 0 most_quantity keys.Firm d) (fifth p.0 w.0 x.0) c x.2 in
    let i = bind_ok (number 0 most_quantity keys.Interruptible d) (λ interruptible. Ok (made_contract p.0 w.0 x.0 f.0 interruptible)) c f.2 in
    subst {A = Contract} (IsContract d) (ok_is (made_contract p.0 w.0 x.0 f.0 i.0) c i.2) (record {
      portfolio = (Reads-code keys.Portfolio).takes d p.0 p.1;
      day = (Reads-day keys.Day).takes d w.0 w.1;
      direction = (Reads-direction keys.Direction).takes d x.0 x.1;
      firm = (Reads-number 0 most_quantity keys.Firm).takes d f.0 f.1;
      interruptible = (Reads-number 0 most_quantity keys.Interruptible).takes d i.0 i.1;
    })

contract_again : (d : Data) (c : Contract) → IsContract d c → contract d ≡ Ok c
unfolding contract
contract_again d c h =
    rw (
      (Reads-code keys.Portfolio).again d c.portfolio h.portfolio,
      (Reads-day keys.Day).again d c.day h.day,
      (Reads-direction keys.Direction).again d c.direction h.direction,
      (Reads-number 0 most_quantity keys.Firm).again d c.firm h.firm,
      (Reads-number 0 most_quantity keys.Interruptible).again d c.interruptible h.interruptible,
    ) refl

-- ---- notices

made_notice : Date → Direction → Span → ℕ → ℕ → Notice
made_notice date direction s firm interruptible = record { day = date; direction = direction; first = s.first; last = s.last; firm = firm; interruptible = interruptible }

notice_takes : (d : Data) (n : Notice) → notice d ≡ Ok n → IsNotice d n
unfolding notice made_notice
notice_takes d n e =
    let fifth = λ (w : Date) (x : Direction) (s : Span) (firm : ℕ). number 0 most_permille keys.Interruptible d >>= λ interruptible. Ok (made_notice w x s firm interruptible) in
    let fourth = λ (w : Date) (x : Direction) (s : Span). number 0 most_permille keys.Firm d >>= fifth w x s in
    let third = λ (w : Date) (x : Direction). span d >>= fourth w x in
    let second = λ (w : Date). direction keys.Direction d >>= third w in
    let w = bind_ok (day keys.Day d) second n e in
    let x = bind_ok (direction keys.Direction d) (third w.0) n w.2 in
    let s = bind_ok (span d) (fourth w.0 x.0) n x.2 in
    let firm = bind_ok (number 0 most_permille keys.Firm d) (fifth w.0 x.0 s.0) n s.2 in
    let i = bind_ok (number 0 most_permille keys.Interruptible d) (λ interruptible. Ok (made_notice w.0 x.0 s.0 firm.0 interruptible)) n firm.2 in
    let hours = Reads-span.takes d s.0 s.1 in
    subst {A = Notice} (IsNotice d) (ok_is (made_notice w.0 x.0 s.0 firm.0 i.0) n i.2) (record {
      day = (Reads-day keys.Day).takes d w.0 w.1;
      direction = (Reads-direction keys.Direction).takes d x.0 x.1;
      first = hours.first;
      last = hours.last;
      firm = (Reads-number 0 most_permille keys.Firm).takes d firm.0 firm.1;
      interruptible = (Reads-number 0 most_permille keys.Interruptible).takes d i.0 i.1;
    })

notice_again : (d : Data) (n : Notice) → IsNotice d n → notice d ≡ Ok n
unfolding notice
notice_again d n h =
    rw (
      (Reads-day keys.Day).again d n.day h.day,
      (Reads-direction keys.Direction).again d n.direction h.direction,
      Reads-span.again d (made_span n.first n.last) (record { first = h.first; last = h.last }),
      (Reads-number 0 most_permille keys.Firm).again d n.firm h.firm,
      (Reads-number 0 most_permille keys.Interruptible).again d n.interruptible h.interruptible,
    ) refl

-- ---- nominations

if_nomint_ok : (o : Option MessageKind) (r : Read Nomint) (m : Nomint) → if_nomint o r ≡ Ok m → (o ≡ Some message_kinds.Nomint) × (r ≡ Ok m)
if_nomint_ok (Some message_kinds.Nomint) r m e = (refl, e)
if_nomint_ok (Some message_kinds.Acknow) r m e = absurd cc
if_nomint_ok (Some message_kinds.Nomres) r m e = absurd cc
if_nomint_ok (Some message_kinds.Delord) r m e = absurd cc
if_nomint_ok (Some message_kinds.Delres) r m e = absurd cc
if_nomint_ok None r m e = absurd cc

Reads-document_of : Reads document_of IsDocument
Reads-document_of = record {
  takes = λ d m e.
      let is = if_nomint_ok (message_kind_of d) (nomint d) m e in
      record { kind = kind_of-takes message_kinds.Nomint d is.0; fields = nomint_takes d m is.1 };
  again = λ d m h. ap (λ (o : Option MessageKind). if_nomint o (nomint d)) (kind_of-again message_kinds.Nomint d h.kind) ∙ nomint_again d m h.fields;
}

Reads-document : Reads document (Has IsDocument keys.Nomint)
unfolding document
Reads-document = Reads-field keys.Nomint document_of IsDocument Reads-document_of

-- ---- cycles

made_id : Date → ℕ → CycleId
made_id date cycle = record { day = date; cycle = cycle }

cycle_id_takes : (d : Data) (id : CycleId) → cycle_id d ≡ Ok id → IsCycleId d id
unfolding cycle_id made_id
cycle_id_takes d id e =
    let second = λ (w : Date). number 0 last_cycle keys.Cycle d >>= λ cycle. Ok (made_id w cycle) in
    let w = bind_ok (day keys.Day d) second id e in
    let c = bind_ok (number 0 last_cycle keys.Cycle d) (λ cycle. Ok (made_id w.0 cycle)) id w.2 in
    subst {A = CycleId} (IsCycleId d) (ok_is (made_id w.0 c.0) id c.2) (record { day = (Reads-day keys.Day).takes d w.0 w.1; cycle = (Reads-number 0 last_cycle keys.Cycle).takes d c.0 c.1 })

cycle_id_again : (d : Data) (id : CycleId) → IsCycleId d id → cycle_id d ≡ Ok id
unfolding cycle_id
cycle_id_again d id h = rw ((Reads-day keys.Day).again d id.day h.day, (Reads-number 0 last_cycle keys.Cycle).again d id.cycle h.cycle) refl

-- ---- rules

rule_numbered_again : (r : Rule) → rule_numbered (rule_number r) ≡ Some r
rule_numbered_again One = refl
rule_numbered_again Two = refl

rule_by : (n : ℕ) (r : Rule) (one two : Bool) → nat_eq n 1 ≡ one → nat_eq n 2 ≡ two → cond one (Some One) (cond two (Some Two) None) ≡ Some r → n ≡ rule_number r
rule_by n r true two is other e = let same : One ≡ r = cc in eqb-true n 1 is ∙ ap rule_number same
rule_by n r false true is other e = let same : Two ≡ r = cc in eqb-true n 2 other ∙ ap rule_number same
rule_by n r false false is other e = absurd cc

-- only the number of a rule is read as it
rule_numbered_takes : (n : ℕ) (r : Rule) → rule_numbered n ≡ Some r → n ≡ rule_number r
rule_numbered_takes n r e = rule_by n r (nat_eq n 1) (nat_eq n 2) refl refl e

rule_takes : (d : Data) (r : Rule) → rule d ≡ Ok r → HasRule d r
unfolding rule
rule_takes d r e =
    let n = bind_ok (number_or 1 1 2 keys.Rule d) (λ n. wanted keys.Rule (rule_numbered n)) r e in
    subst (HasOr 1 (IsWhole 1 2) keys.Rule d) (rule_numbered_takes n.0 r (wanted_ok keys.Rule (rule_numbered n.0) r n.2)) ((Reads-number_or 1 1 2 keys.Rule).takes d n.0 n.1)

rule_again : (d : Data) (r : Rule) → HasRule d r → rule d ≡ Ok r
unfolding rule
rule_again d r h = rw ((Reads-number_or 1 1 2 keys.Rule).again d (rule_number r) h, rule_numbered_again r) refl

closing_takes : (d : Data) (f : Fact) → IsOfKind kinds.Closed d → closing d ≡ Ok f → IsFact d f
unfolding closing
closing_takes d f is e =
    let second = λ (id : CycleId). rule d >>= λ r. Ok (facts.Closed id r) in
    let b = bind_ok (cycle_id d) second f e in
    let r = bind_ok (rule d) (λ r. Ok (facts.Closed b.0 r)) f b.2 in
    subst (IsFact d) (ok_is (facts.Closed b.0 r.0) f r.2) (is, cycle_id_takes d b.0 b.1, rule_takes d r.0 r.1)

closing_again : (d : Data) (id : CycleId) (r : Rule) → IsCycleId d id → HasRule d r → closing d ≡ Ok (facts.Closed id r)
unfolding closing
closing_again d id r is has = rw (cycle_id_again d id is, rule_again d r has) refl

-- ---- meetings

peer_table_takes : (d : Data) (peer : TableContents) → peer_table d ≡ Ok peer → IsPeerTable d peer
unfolding peer_table
peer_table_takes d peer e =
    let s = bind_ok (span d) (λ s. table keys.Peer most_processed_rows s.first s.last d) peer e in
    let hours = Reads-span.takes d s.0 s.1 in
    let rows = table_takes keys.Peer most_processed_rows s.0.first s.0.last d peer s.2 in
    let moved = λ (P : ℕ → ℕ → Type 0). for_its_hours P s.0.first s.0.last peer rows.makes.begins rows.makes.ends in
    record {
      first = moved (λ first last. Has (IsWhole 1 last_hour) keys.First d first) hours.first;
      last = moved (λ first last. Has (IsWhole first last_hour) keys.Last d last) hours.last;
      rows = moved (λ first last. HasTable most_processed_rows first last keys.Peer d peer) rows;
    }

peer_table_again : (d : Data) (peer : TableContents) → IsPeerTable d peer → peer_table d ≡ Ok peer
unfolding peer_table
peer_table_again d peer h =
    rw (
      Reads-span.again d (made_span peer.first peer.last) (record { first = h.first; last = h.last }),
      table_again keys.Peer most_processed_rows peer.first peer.last d peer h.rows,
    ) refl

-- ---- kinds

kind_named_again : (k : Kind) → kind_named (kind_text k) ≡ Some k
unfolding kind_named
kind_named_again kinds.Contract = refl
kind_named_again kinds.Notice = refl
kind_named_again kinds.Nomination = refl
kind_named_again kinds.Closed = refl
kind_named_again kinds.Met = refl

kind_named_takes : (name : List ℕ) (k : Kind) → kind_named name ≡ Some k → name ≡ kind_text k
unfolding kind_named
kind_named_takes name k e = (bytes_eq-Decides name (kind_text k)).0 (found_passes (λ other. bytes_eq name (kind_text other)) all_kinds k e)

abbrev NamesKind : List ℕ → Kind → Type 0
NamesKind name k = name ≡ kind_text k

Reads-kind : Reads kind (Has (IsText NamesKind) keys.Fact)
unfolding kind
Reads-kind = Reads-named keys.Fact kind_named NamesKind kind_named_takes (λ name k is. ap kind_named is ∙ kind_named_again k)

kind_takes : (d : Data) (k : Kind) → kind d ≡ Ok k → IsOfKind k d
kind_takes d k e =
    let h = Reads-kind.takes d k e in
    h.found ∙ ap Some (h.stands.written ∙ ap string h.stands.names)

kind_again : (d : Data) (k : Kind) → IsOfKind k d → kind d ≡ Ok k
kind_again d k is = Reads-kind.again d k (record { value = string (kind_text k); found = is; stands = record { text = kind_text k; written = refl; names = refl } })

-- ---- facts

of_kind_takes : (k : Kind) (d : Data) (f : Fact) → IsOfKind k d → of_kind k d ≡ Ok f → IsFact d f
unfolding meeting
of_kind_takes kinds.Contract d f is e =
    let b = bind_ok (contract d) (λ found. Ok (facts.Contracted found)) f e in
    subst (IsFact d) (ok_is (facts.Contracted b.0) f b.2) (is, contract_takes d b.0 b.1)
of_kind_takes kinds.Notice d f is e =
    let b = bind_ok (notice d) (λ found. Ok (facts.Noticed found)) f e in
    subst (IsFact d) (ok_is (facts.Noticed b.0) f b.2) (is, notice_takes d b.0 b.1)
of_kind_takes kinds.Nomination d f is e =
    let b = bind_ok (document d) (λ found. Ok (facts.Nominated found)) f e in
    subst (IsFact d) (ok_is (facts.Nominated b.0) f b.2) (is, Reads-document.takes d b.0 b.1)
of_kind_takes kinds.Closed d f is e = closing_takes d f is e
of_kind_takes kinds.Met d f is e =
    let second = λ (id : CycleId). peer_table d >>= λ peer. Ok (facts.Met id peer) in
    let b = bind_ok (cycle_id d) second f e in
    let p = bind_ok (peer_table d) (λ peer. Ok (facts.Met b.0 peer)) f b.2 in
    subst (IsFact d) (ok_is (facts.Met b.0 p.0) f p.2) (is, cycle_id_takes d b.0 b.1, peer_table_takes d p.0 p.1)

fact_takes : (d : Data) (f : Fact) → fact d ≡ Ok f → IsFact d f
unfolding fact
fact_takes d f e =
    let k = bind_ok (kind d) (λ k. of_kind k d) f e in
    of_kind_takes k.0 d f (kind_takes d k.0 k.1) k.2

of_kind_is : (k : Kind) (d : Data) → IsOfKind k d → fact d ≡ of_kind k d
unfolding fact
of_kind_is k d is = ap (λ (s : Read Kind). s >>= λ found. of_kind found d) (kind_again d k is)

pub fact_again : (d : Data) (f : Fact) → IsFact d f → fact d ≡ Ok f
unfolding meeting
fact_again d (facts.Contracted c) h = of_kind_is kinds.Contract d h.0 ∙ ap (λ (s : Read Contract). s >>= λ found. Ok (facts.Contracted found)) (contract_again d c h.1)
fact_again d (facts.Noticed n) h = of_kind_is kinds.Notice d h.0 ∙ ap (λ (s : Read Notice). s >>= λ found. Ok (facts.Noticed found)) (notice_again d n h.1)
fact_again d (facts.Nominated m) h = of_kind_is kinds.Nomination d h.0 ∙ ap (λ (s : Read Nomint). s >>= λ found. Ok (facts.Nominated found)) (Reads-document.again d m h.1)
fact_again d (facts.Closed id r) h = of_kind_is kinds.Closed d h.0 ∙ closing_again d id r h.1 h.2
fact_again d (facts.Met id peer) h =
    of_kind_is kinds.Met d h.0 ∙ ap (λ (s : Read CycleId). s >>= λ found. peer_table d >>= λ table. Ok (facts.Met found table)) (cycle_id_again d id h.1)
    ∙ ap (λ (s : Read TableContents). s >>= λ table. Ok (facts.Met id table)) (peer_table_again d peer h.2)

pub Reads-fact : Reads fact IsFact
Reads-fact = record { takes = fact_takes; again = λ d f h. fact_again d f h }

-- ---- bytes

some_of_ok : (r : Read Fact) (f : Fact) → result_ok r ≡ Some f → r ≡ Ok f
some_of_ok (Ok g) f e = let same : g ≡ f = cc in ap (λ (x : Fact). Ok x) same
some_of_ok (Err key) f e = absurd cc

pub fact_of_takes : (bytes : List ℕ) (f : Fact) → fact_of bytes ≡ Some f → Spells bytes f
unfolding fact_of
fact_of_takes bytes f e = option_and_then_some of_value (json_of bytes) f e (λ d is read. record { value = d; json = is; stands = fact_takes d f (some_of_ok (fact d) f read) })

pub fact_of_again : (bytes : List ℕ) (f : Fact) → Spells bytes f → fact_of bytes ≡ Some f
unfolding fact_of
fact_of_again bytes f h = ap (λ (o : Option Data). option_and_then of_value o) h.json ∙ ap (λ (r : Read Fact). result_ok r) (fact_again h.value f h.stands)

-- a value stands for one fact at most
pub one_fact : (d : Data) (f g : Fact) → IsFact d f → IsFact d g → f ≡ g
one_fact d f g is other =
    let same : ◌≡◌ {A = Read Fact} (Ok f) (Ok g) = sym (fact_again d f is) ∙ fact_again d g other in
    cc

-- what was read is spelled so
pub is_found : (bytes : List ℕ) (r : Result Fact FactFault) → Gives r (fact_of bytes) → IfOk r (λ f. Spells bytes f)
is_found bytes (Ok f) given = fact_of_takes bytes f given
is_found bytes (Err e) given = tt

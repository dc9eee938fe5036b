-- What is written for a fact stands for it, and is read back.
use Rattle.std.proofs.Common.{◌≡◌, inl, inr, ℕ, ◌≤◌, true, List, [], ◌∷◌, ◌++◌, Some, Result, Ok, IfOk, refl, ap, ◌∙◌, arith}
use Rattle.std.specs.Str.{is_utf8}
use Rattle.std.proofs.lemmas.Str.{is_utf8-from_IsUtf8}
use Rattle.json.specs.Print.{print}
use Rattle.json.specs.Token.{end_object}
use Rattle.json.specs.Tree.{members_tokens}
use Rattle.json.specs.Written.{Written}
use Rattle.json.proofs.Printed.Utf8.{IsUtf8-are_ascii}
use Rattle.serde_json.specs.Data.{Data, depth}
use Rattle.serde_json.specs.Written.{members_outline}
use Rattle.gi_pairs.specs.Limits.{last_hour, most_processed_rows}
use Rattle.gi_pairs.specs.Quantity.{most_quantity}
use Rattle.gi_pairs.specs.Table.{TableContents}
use Rattle.gi_pairs.specs.declared.cycle_id.CycleId.{CycleId}
use Rattle.gi_messages.specs.Adding.{Added, tokens_of}
use Rattle.gi_messages.specs.Grammar.{FitsNomint}
use Rattle.gi_messages.specs.Limits.{last_cycle}
use Rattle.gi_messages.specs.Writing.{nomint_data}
use Rattle.gi_messages.specs.declared.key.Key.TheVariants as keys
use Rattle.gi_messages.specs.declared.message.Message.TheVariants.{Nomint as NomintMessage}
use Rattle.gi_messages.specs.declared.message.Nomint.{Nomint}
use Rattle.gi_messages.proofs.Plain.{IsPlain, IsUtf8-compact_text, json_of-compact_text}
use Rattle.gi_messages.proofs.TableLemmas.{is_code}
use Rattle.gi_messages.proofs.WritingLemmas.{fits_from_writable}
use Rattle.gi_messages.proofs.WrittenKinds.{nomint_plain, nomint_stands, of_kind-nomint}
use Rattle.gi_messages.proofs.WrittenParts.{code_utf8, depth-nomination_lines, depth-rows, direction_utf8, few_rows, plain_day, plain_table, stands_code, stands_day, stands_direction, stands_number, stands_table}
use Rattle.gi_messages.proofs.WrittenTokens.{followed, text_is}
use Rattle.gi_processing.specs.CapacityLimits.{most_permille}
use Rattle.gi_processing.specs.declared.contract.Contract.{Contract}
use Rattle.gi_processing.specs.declared.notice.Notice.{Notice}
use Rattle.gi_processing.specs.declared.rule.Rule.{Rule}
use Rattle.gi_processing.specs.declared.rule.Rule.TheVariants.{One, Two}
use Rattle.gi_facts.specs.Decoding.{fact_of}
use Rattle.gi_facts.specs.Grammar.{IsCycleId, IsFact, IsWritable, Spells}
use Rattle.gi_facts.specs.Writable.{FitsContract, FitsCycle, FitsFact, FitsNotice, FitsProcessed}
use Rattle.gi_facts.specs.Writing.{AddsRule, closing_data, contract_data, data_of, fact_text, meeting_data, nomination_data, notice_data, rule_members}
use Rattle.gi_facts.specs.declared.fact.Fact.{Fact}
use Rattle.gi_facts.specs.declared.fact.Fact.TheVariants as facts
use Rattle.gi_facts.proofs.ReadingLemmas.{fact_of_again}

-- ---- a fact that fits stands in the value that is written for it

contract_stands : (c : Contract) → FitsContract c → IsFact (contract_data c) (facts.Contracted c)
unfolding contract_data
contract_stands c h = (
  refl,
  record {
    portfolio = stands_code keys.Portfolio _ c.portfolio h.portfolio refl;
    day = stands_day keys.Day _ c.day h.day refl;
    direction = stands_direction keys.Direction _ c.direction refl;
    firm = stands_number keys.Firm _ 0 most_quantity c.firm (omega arith) h.firm refl;
    interruptible = stands_number keys.Interruptible _ 0 most_quantity c.interruptible (omega arith) h.interruptible refl;
  },
)

notice_stands : (n : Notice) → FitsNotice n → IsFact (notice_data n) (facts.Noticed n)
unfolding notice_data
notice_stands n h = (
  refl,
  record {
    day = stands_day keys.Day _ n.day h.day refl;
    direction = stands_direction keys.Direction _ n.direction refl;
    first = stands_number keys.First _ 1 last_hour n.first h.begins (omega (arith, h.ordered, h.ends)) refl;
    last = stands_number keys.Last _ n.first last_hour n.last h.ordered h.ends refl;
    firm = stands_number keys.Firm _ 0 most_permille n.firm (omega arith) h.firm refl;
    interruptible = stands_number keys.Interruptible _ 0 most_permille n.interruptible (omega arith) h.interruptible refl;
  },
)

nomination_stands : (m : Nomint) → FitsNomint m → IsFact (nomination_data m) (facts.Nominated m)
unfolding nomination_data
nomination_stands m h = (refl, record { value = nomint_data m; found = refl; stands = record { kind = of_kind-nomint m; fields = nomint_stands m h } })

closing_stands : (id : CycleId) (rule : Rule) → FitsCycle id → IsFact (closing_data id rule) (facts.Closed id rule)
unfolding closing_data
closing_stands id One h = (
  refl,
  record { day = stands_day keys.Day _ id.day h.day refl; cycle = stands_number keys.Cycle _ 0 last_cycle id.cycle (omega arith) h.cycle refl },
  inl (refl, refl),
)
closing_stands id Two h = (
  refl,
  record { day = stands_day keys.Day _ id.day h.day refl; cycle = stands_number keys.Cycle _ 0 last_cycle id.cycle (omega arith) h.cycle refl },
  inr (stands_number keys.Rule _ 1 2 2 (omega arith) (omega arith) refl),
)

meeting_stands : (id : CycleId) (peer : TableContents) → FitsCycle id → FitsProcessed peer → IsFact (meeting_data id peer) (facts.Met id peer)
unfolding meeting_data
meeting_stands id peer h fits = (
  refl,
  record { day = stands_day keys.Day _ id.day h.day refl; cycle = stands_number keys.Cycle _ 0 last_cycle id.cycle (omega arith) h.cycle refl },
  record {
    first = stands_number keys.First _ 1 last_hour peer.first fits.table.begins (omega (arith, fits.table.ordered, fits.table.ends)) refl;
    last = stands_number keys.Last _ peer.first last_hour peer.last fits.table.ordered fits.table.ends refl;
    rows = stands_table keys.Peer _ most_processed_rows peer.first peer.last peer fits.table refl refl fits.few refl;
  },
)

stands : (f : Fact) → FitsFact f → IsFact (data_of f) f
stands (facts.Contracted c) h = contract_stands c h
stands (facts.Noticed n) h = notice_stands n h
stands (facts.Nominated m) h = nomination_stands m h
stands (facts.Closed id rule) h = closing_stands id rule h
stands (facts.Met id peer) h = meeting_stands id peer h.0 h.1

pub writable_from_fits : (f : Fact) → FitsFact f → IsWritable f
writable_from_fits f h = (data_of f, stands f h)

-- ---- a fact for which some value stands fits

cycle_fits : (d : Data) (id : CycleId) → IsCycleId d id → FitsCycle id
cycle_fits d id h = record { day = h.day.stands.names.0; cycle = h.cycle.stands.to }

pub fits_from_writable_fact : (f : Fact) → IsWritable f → FitsFact f
fits_from_writable_fact (facts.Contracted c) w =
    let h = w.1.1 in
    record { portfolio = is_code _ _ c.portfolio h.portfolio; day = h.day.stands.names.0; firm = h.firm.stands.to; interruptible = h.interruptible.stands.to }
fits_from_writable_fact (facts.Noticed n) w =
    let h = w.1.1 in
    record { day = h.day.stands.names.0; begins = h.first.stands.from; ordered = h.last.stands.from; ends = h.last.stands.to; firm = h.firm.stands.to; interruptible = h.interruptible.stands.to }
fits_from_writable_fact (facts.Nominated m) w =
    let h = w.1.1 in
    fits_from_writable (NomintMessage m) (h.value, (h.stands.kind, h.stands.fields))
fits_from_writable_fact (facts.Closed id rule) w = cycle_fits w.0 id w.1.1
fits_from_writable_fact (facts.Met id peer) w = (cycle_fits w.0 id w.1.1, record { table = w.1.2.rows.makes.table; few = few_rows _ _ _ _ _ peer w.1.2.rows })

-- what is written for a fact stands for it
pub data_of-stands : (f : Fact) → IsWritable f → IsFact (data_of f) f
data_of-stands f h = stands f (fits_from_writable_fact f h)

-- ---- what is written is plain

pub plain : (f : Fact) → FitsFact f → IsPlain (data_of f)
unfolding contract_data notice_data nomination_data closing_data meeting_data
plain (facts.Contracted c) h = (
  (
    IsUtf8-are_ascii _ refl,
    plain_day c.day h.day,
    (
      IsUtf8-are_ascii _ refl,
      direction_utf8 c.direction,
      (
        IsUtf8-are_ascii _ refl,
        IsUtf8-are_ascii _ refl,
        (
          IsUtf8-are_ascii _ refl,
          omega (arith, h.firm),
          (IsUtf8-are_ascii _ refl, omega (arith, h.interruptible), (IsUtf8-are_ascii _ refl, code_utf8 c.portfolio h.portfolio, tt)),
        ),
      ),
    ),
  ),
  refl,
)
plain (facts.Noticed n) h = (
  (
    IsUtf8-are_ascii _ refl,
    plain_day n.day h.day,
    (
      IsUtf8-are_ascii _ refl,
      direction_utf8 n.direction,
      (
        IsUtf8-are_ascii _ refl,
        IsUtf8-are_ascii _ refl,
        (
          IsUtf8-are_ascii _ refl,
          omega (arith, h.firm),
          (
            IsUtf8-are_ascii _ refl,
            omega (arith, h.ordered, h.ends),
            (IsUtf8-are_ascii _ refl, omega (arith, h.interruptible), (IsUtf8-are_ascii _ refl, omega (arith, h.ends), tt)),
          ),
        ),
      ),
    ),
  ),
  refl,
)
plain (facts.Nominated m) h = ((IsUtf8-are_ascii _ refl, IsUtf8-are_ascii _ refl, (IsUtf8-are_ascii _ refl, nomint_plain m h, tt)), refl)
plain (facts.Closed id One) h = (
  (
    IsUtf8-are_ascii _ refl,
    omega (arith, h.cycle),
    (IsUtf8-are_ascii _ refl, plain_day id.day h.day, (IsUtf8-are_ascii _ refl, IsUtf8-are_ascii _ refl, tt)),
  ),
  refl,
)
plain (facts.Closed id Two) h = (
  (
    IsUtf8-are_ascii _ refl,
    omega (arith, h.cycle),
    (
      IsUtf8-are_ascii _ refl,
      plain_day id.day h.day,
      (IsUtf8-are_ascii _ refl, IsUtf8-are_ascii _ refl, (IsUtf8-are_ascii _ refl, omega arith, tt)),
    ),
  ),
  refl,
)
plain (facts.Met id peer) h = (
  (
    IsUtf8-are_ascii _ refl,
    omega (arith, h.0.cycle),
    (
      IsUtf8-are_ascii _ refl,
      plain_day id.day h.0.day,
      (
        IsUtf8-are_ascii _ refl,
        IsUtf8-are_ascii _ refl,
        (
          IsUtf8-are_ascii _ refl,
          omega (arith, h.1.table.ordered, h.1.table.ends),
          (IsUtf8-are_ascii _ refl, omega (arith, h.1.table.ends), (IsUtf8-are_ascii _ refl, plain_table peer h.1.table, tt)),
        ),
      ),
    ),
  ),
  refl,
)

-- the values nest five deep
pub depth-data_of : (f : Fact) → depth (data_of f) ≤ 126
unfolding contract_data notice_data nomination_data closing_data meeting_data nomint_data
depth-data_of (facts.Contracted c) = omega arith
depth-data_of (facts.Noticed n) = omega arith
depth-data_of (facts.Nominated m) = omega (arith, depth-nomination_lines m.lines)
depth-data_of (facts.Closed id One) = omega arith
depth-data_of (facts.Closed id Two) = omega arith
depth-data_of (facts.Met id peer) = omega (arith, depth-rows peer.rows)

-- ---- what is written is read back

text_of-spells : (f : Fact) → IsWritable f → Spells (fact_text f) f
unfolding fact_text
text_of-spells f h = record { value = data_of f; json = json_of-compact_text (data_of f) (plain f (fits_from_writable_fact f h)) (omega (arith, depth-data_of f)); stands = data_of-stands f h }

pub round_trip : (f : Fact) → IsWritable f → fact_of (fact_text f) ≡ Some f
round_trip f h = fact_of_again (fact_text f) f (text_of-spells f h)

pub is_text : (f : Fact) → IsWritable f → is_utf8 (fact_text f) ≡ true
unfolding fact_text
is_text f h = is_utf8-from_IsUtf8 (fact_text f) (IsUtf8-compact_text (data_of f) (plain f (fits_from_writable_fact f h)))

-- ---- what `put_closing` answers

-- what ends a closing stands behind its rule
pub rule_ended : {E : Type 0} (a b : Written) (rule : Rule) (r : Result (Unit {0}) E) (c : Written) → AddsRule {E = E} (Ok tt) a b rule → IfOk r (λ _. Added b c (end_object ∷ [])) → IfOk r (λ _. Added a c (members_tokens (members_outline (rule_members rule))))
rule_ended a b One r c h ended = followed r c _ h ended
rule_ended a b Two r c h ended = followed r c _ h ended

-- ---- what `encode_fact` answers

-- the text of a fact that was added to nothing
pub is_text_of : {a b : Written} (f : Fact) (bytes : List ℕ) → a.before ≡ [] → a.tokens ≡ [] → Added a b (tokens_of (data_of f)) → bytes ≡ b.before ++ print b.tokens → bytes ≡ fact_text f
unfolding fact_text
is_text_of f bytes before none h is = is ∙ text_is (data_of f) before none h

pub is_read_back : (f : Fact) (bytes : List ℕ) → bytes ≡ fact_text f → IsWritable f → fact_of bytes ≡ Some f
is_read_back f bytes is writable = ap fact_of is ∙ round_trip f writable

-- What is written for a message stands for it, and is read back.
use Rattle.std.proofs.Common.{◌≡◌, ℕ, ◌≤◌, List, [], ◌++◌, length, Ok, ap, ◌∙◌, subst, arith}
use Rattle.json.specs.Print.{print}
use Rattle.json.specs.Written.{Written}
use Rattle.serde_json.specs.Data.{depth}
use Rattle.gi_messages.specs.Adding.{Added, tokens_of}
use Rattle.gi_messages.specs.Limits.{most_bytes, most_parts}
use Rattle.gi_messages.specs.declared.key.Key.TheVariants as keys
use Rattle.gi_messages.specs.declared.message.Message.{Message}
use Rattle.gi_messages.specs.declared.message.Message.TheVariants as messages
use Rattle.gi_messages.specs.Decoding.{decoded}
use Rattle.gi_messages.specs.Grammar.{IsMessage, IsWritable, Fits, Spells}
use Rattle.gi_messages.specs.Writing.{nomint_data, acknow_data, nomres_data, data_of, text_of}
use Rattle.gi_messages.proofs.MessageLemmas.{decoded_again}
use Rattle.gi_messages.proofs.Plain.{IsPlain, json_of-compact_text}
use Rattle.gi_messages.proofs.TableLemmas.{is_code}
use Rattle.gi_messages.proofs.WrittenTokens.{text_is}
use Rattle.gi_messages.proofs.WrittenParts.{depth-lines, depth-nomination_lines, few_rows, lines_fit_for, nomination_lines_fit, usual_fits}
use Rattle.gi_messages.proofs.WrittenKinds.{depth-delord, depth-delres, nomint_stands, acknow_stands, nomres_stands, delord_stands, delres_stands, of_kind-nomint, of_kind-acknow, of_kind-nomres, of_kind-delord, of_kind-delres, nomint_plain, acknow_plain, nomres_plain, delord_plain, delres_plain}

-- the values nest four deep
pub depth-data_of : (m : Message) → depth (data_of m) ≤ 127
unfolding nomint_data acknow_data nomres_data
depth-data_of (messages.Nomint m) = omega (arith, depth-nomination_lines m.lines)
depth-data_of (messages.Acknow m) = omega arith
depth-data_of (messages.Nomres m) = omega (arith, depth-lines m.lines)
depth-data_of (messages.Delord m) = depth-delord m
depth-data_of (messages.Delres m) = depth-delres m

-- ---- a message that fits stands in the value that is written for it

stands : (m : Message) → Fits m → IsMessage (data_of m) m
stands (messages.Nomint m) h = (of_kind-nomint m, nomint_stands m h)
stands (messages.Acknow m) h = (of_kind-acknow m, acknow_stands m h)
stands (messages.Nomres m) h = (of_kind-nomres m, nomres_stands m h)
stands (messages.Delord m) h = (of_kind-delord m, delord_stands m h)
stands (messages.Delres m) h = (of_kind-delres m, delres_stands m h)

pub writable_from_fits : (m : Message) → Fits m → IsWritable m
writable_from_fits m h = (data_of m, stands m h)

-- ---- a message for which some value stands fits

pub fits_from_writable : (m : Message) → IsWritable m → Fits m
fits_from_writable (messages.Nomint m) w =
    let h = w.1.1 in
    record {
      point = is_code _ _ m.point h.point;
      portfolio = is_code _ _ m.portfolio h.portfolio;
      day = h.day.stands.names.0;
      from = h.version.stands.from;
      to = h.version.stands.to;
      lines = nomination_lines_fit _ m.lines h.lines;
    }
fits_from_writable (messages.Acknow m) w =
    let h = w.1.1 in
    record { point = is_code _ _ m.point h.point; portfolio = is_code _ _ m.portfolio h.portfolio; day = h.day.stands.names.0; from = h.version.stands.from; to = h.version.stands.to }
fits_from_writable (messages.Nomres m) w =
    let h = w.1.1 in
    let lines = lines_fit_for _ _ m.lines h.lines in
    record {
      point = is_code _ _ m.point h.point;
      portfolio = is_code _ _ m.portfolio h.portfolio;
      day = h.day.stands.names.0;
      cycle = h.cycle.stands.to;
      begins = h.first.stands.from;
      ordered = h.last.stands.from;
      ends = h.last.stands.to;
      lines = lines.0;
      whole = lines.1;
    }
fits_from_writable (messages.Delord m) w =
    let h = w.1.1 in
    let parts = usual_fits 1 1 most_parts keys.Parts _ m.parts (omega arith) (omega arith) h.parts in
    let part = usual_fits 1 1 m.parts keys.Part _ m.part (omega arith) parts.0 h.part in
    record {
      point = is_code _ _ m.point h.point;
      day = h.day.stands.names.0;
      cycle = h.cycle.stands.to;
      few_parts = parts.1;
      part_from = part.0;
      part_to = part.1;
      processed = h.processed.makes.table;
      few = few_rows _ _ _ _ _ m.processed h.processed;
    }
fits_from_writable (messages.Delres m) w =
    let h = w.1.1 in
    let parts = usual_fits 1 1 most_parts keys.Parts _ m.parts (omega arith) (omega arith) h.parts in
    let part = usual_fits 1 1 m.parts keys.Part _ m.part (omega arith) parts.0 h.part in
    record {
      point = is_code _ _ m.point h.point;
      day = h.day.stands.names.0;
      cycle = h.cycle.stands.to;
      few_parts = parts.1;
      part_from = part.0;
      part_to = part.1;
      processed = h.processed.makes.table;
      few = few_rows _ _ _ _ _ m.processed h.processed;
      confirmed = h.confirmed.makes.table;
      few_confirmed = few_rows _ _ _ _ _ m.confirmed h.confirmed;
      begins = h.confirmed.makes.begins;
      ends = h.confirmed.makes.ends;
    }

-- what is written for a message stands for it
pub data_of-stands : (m : Message) → IsWritable m → IsMessage (data_of m) m
data_of-stands m h = stands m (fits_from_writable m h)

-- ---- what is written is read back

plain : (m : Message) → Fits m → IsPlain (data_of m)
plain (messages.Nomint m) h = nomint_plain m h
plain (messages.Acknow m) h = acknow_plain m h
plain (messages.Nomres m) h = nomres_plain m h
plain (messages.Delord m) h = delord_plain m h
plain (messages.Delres m) h = delres_plain m h

-- the written text spells the message
pub text_of-spells : (m : Message) → IsWritable m → length (text_of m) ≤ most_bytes → Spells (text_of m) m
unfolding text_of
text_of-spells m h short = record {
  short = short;
  value = data_of m;
  json = json_of-compact_text (data_of m) (plain m (fits_from_writable m h)) (depth-data_of m);
  stands = data_of-stands m h;
}

-- a message that is written is read back
pub round_trip : (m : Message) → IsWritable m → length (text_of m) ≤ most_bytes → decoded (text_of m) ≡ Ok m
round_trip m h short = decoded_again (text_of m) m (text_of-spells m h short)

-- ---- what `encode` answers

-- the text of a message that was added to nothing
pub is_text_of : {a b : Written} (m : Message) (bytes : List ℕ) → a.before ≡ [] → a.tokens ≡ [] → Added a b (tokens_of (data_of m)) → bytes ≡ b.before ++ print b.tokens → bytes ≡ text_of m
unfolding text_of
is_text_of m bytes before none h is = is ∙ text_is (data_of m) before none h

pub is_read_back : (m : Message) (bytes : List ℕ) → bytes ≡ text_of m → IsWritable m → length bytes ≤ most_bytes → decoded bytes ≡ Ok m
is_read_back m bytes is writable short = ap decoded is ∙ round_trip m writable (subst (λ (text : List ℕ). length text ≤ most_bytes) is short)

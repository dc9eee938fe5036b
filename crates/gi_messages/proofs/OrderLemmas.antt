-- A DELORD and a DELRES are read exactly where they stand in the relation.
use Rattle.std.proofs.Common.{◌≡◌, ℕ, List, Ok, refl, sym, subst}
use Rattle.jiff_core.specs.declared.civil.date.Date.{Date}
use Rattle.serde_json.specs.Data.{Data}
use Rattle.gi_pairs.specs.Table.{TableContents}
use Rattle.gi_pairs.specs.Limits.{last_hour}
use Rattle.gi_messages.specs.declared.head.Head.{Head}
use Rattle.gi_messages.specs.declared.key.Key.TheVariants as keys
use Rattle.gi_messages.specs.declared.message.Delord.{Delord}
use Rattle.gi_messages.specs.declared.message.Delres.{Delres}
use Rattle.gi_messages.specs.Limits.{elements_of, last_cycle, most_confirmed_elements, most_parts, most_processed_elements}
use Rattle.gi_messages.specs.Grammar.{Has, HasOr, IsText, IsWhole, HasTable, IsDelord, IsDelres, NamesCode, NamesDay}
use Rattle.gi_messages.specs.Reading.{◌>>=◌}
use Rattle.gi_messages.specs.Decoding.{delord, delres, head, processed, confirmed}
use Rattle.gi_messages.proofs.FieldLemmas.{bind_ok}
use Rattle.gi_messages.proofs.HeadLemmas.{Reads-head, made_head, made_span}
use Rattle.gi_messages.proofs.HoursLemmas.{ok_is}
use Rattle.gi_messages.proofs.TableLemmas.{table_takes, table_again}

-- what holds of the hours that were read holds of the table's
pub for_its_hours : (P : ℕ → ℕ → Type 0) (first last : ℕ) (t : TableContents) → t.first ≡ first → t.last ≡ last → P first last → P t.first t.last
for_its_hours P first last t begins ends h = subst (λ n. P t.first n) (sym ends) (subst (λ n. P n last) (sym begins) h)

made_delord : Head → TableContents → Delord
made_delord h t = record { point = h.point; day = h.day; cycle = h.cycle; parts = h.parts; part = h.part; processed = t }

-- the head of a message whose table is for its hours
abbrev head_for : List ℕ → Date → ℕ → ℕ → ℕ → TableContents → Head
head_for point date cycle parts part t = made_head point date cycle (made_span t.first t.last) parts part

pub delord_takes : (d : Data) (m : Delord) → delord d ≡ Ok m → IsDelord d m
unfolding delord made_delord
delord_takes d m e =
    let second = λ (h : Head). processed h.parts h.span d >>= λ t. Ok (made_delord h t) in
    let h = bind_ok (head d) second m e in
    let t = bind_ok (processed h.0.parts h.0.span d) (λ t. Ok (made_delord h.0 t)) m h.2 in
    let is = Reads-head.takes d h.0 h.1 in
    let own = table_takes keys.Processed (elements_of most_processed_elements h.0.parts) h.0.span.first h.0.span.last d t.0 t.1 in
    let moved = λ (P : ℕ → ℕ → Type 0). for_its_hours P h.0.span.first h.0.span.last t.0 own.makes.begins own.makes.ends in
    subst {A = Delord} (IsDelord d) (ok_is (made_delord h.0 t.0) m t.2) (record {
      point = is.point;
      day = is.day;
      cycle = is.cycle;
      first = moved (λ first last. Has (IsWhole 1 last_hour) keys.First d first) is.span.first;
      last = moved (λ first last. Has (IsWhole first last_hour) keys.Last d last) is.span.last;
      parts = is.parts;
      part = is.part;
      processed = moved (λ first last. HasTable (elements_of most_processed_elements h.0.parts) first last keys.Processed d t.0) own;
    })

head_again : (d : Data) (point : List ℕ) (date : Date) (cycle parts part : ℕ) (t : TableContents) → Has (IsText NamesCode) keys.Point d point → Has (IsText NamesDay) keys.Day d date → Has (IsWhole 0 last_cycle) keys.Cycle d cycle
    → Has (IsWhole 1 last_hour) keys.First d t.first → Has (IsWhole t.first last_hour) keys.Last d t.last → HasOr 1 (IsWhole 1 most_parts) keys.Parts d parts → HasOr 1 (IsWhole 1 parts) keys.Part d part
    → head d ≡ Ok (head_for point date cycle parts part t)
head_again d point date cycle parts part t p w c first last n k =
    Reads-head.again d (head_for point date cycle parts part t) (record { point = p; day = w; cycle = c; span = record { first = first; last = last }; parts = n; part = k })

pub delord_again : (d : Data) (m : Delord) → IsDelord d m → delord d ≡ Ok m
unfolding delord
delord_again d m h =
    rw (
      head_again d m.point m.day m.cycle m.parts m.part m.processed h.point h.day h.cycle h.first h.last h.parts h.part,
      table_again keys.Processed (elements_of most_processed_elements m.parts) m.processed.first m.processed.last d m.processed h.processed,
    ) refl

made_delres : Head → TableContents → TableContents → Delres
made_delres h t u = record { point = h.point; day = h.day; cycle = h.cycle; parts = h.parts; part = h.part; processed = t; confirmed = u }

pub delres_takes : (d : Data) (m : Delres) → delres d ≡ Ok m → IsDelres d m
unfolding delres made_delres
delres_takes d m e =
    let third = λ (h : Head) (t : TableContents). confirmed h.parts h.span d >>= λ u. Ok (made_delres h t u) in
    let second = λ (h : Head). processed h.parts h.span d >>= third h in
    let h = bind_ok (head d) second m e in
    let t = bind_ok (processed h.0.parts h.0.span d) (third h.0) m h.2 in
    let u = bind_ok (confirmed h.0.parts h.0.span d) (λ u. Ok (made_delres h.0 t.0 u)) m t.2 in
    let is = Reads-head.takes d h.0 h.1 in
    let own = table_takes keys.Processed (elements_of most_processed_elements h.0.parts) h.0.span.first h.0.span.last d t.0 t.1 in
    let both = table_takes keys.Confirmed (elements_of most_confirmed_elements h.0.parts) h.0.span.first h.0.span.last d u.0 u.1 in
    let moved = λ (P : ℕ → ℕ → Type 0). for_its_hours P h.0.span.first h.0.span.last t.0 own.makes.begins own.makes.ends in
    subst {A = Delres} (IsDelres d) (ok_is (made_delres h.0 t.0 u.0) m u.2) (record {
      point = is.point;
      day = is.day;
      cycle = is.cycle;
      first = moved (λ first last. Has (IsWhole 1 last_hour) keys.First d first) is.span.first;
      last = moved (λ first last. Has (IsWhole first last_hour) keys.Last d last) is.span.last;
      parts = is.parts;
      part = is.part;
      processed = moved (λ first last. HasTable (elements_of most_processed_elements h.0.parts) first last keys.Processed d t.0) own;
      confirmed = moved (λ first last. HasTable (elements_of most_confirmed_elements h.0.parts) first last keys.Confirmed d u.0) both;
    })

pub delres_again : (d : Data) (m : Delres) → IsDelres d m → delres d ≡ Ok m
unfolding delres
delres_again d m h =
    rw (
      head_again d m.point m.day m.cycle m.parts m.part m.processed h.point h.day h.cycle h.first h.last h.parts h.part,
      table_again keys.Processed (elements_of most_processed_elements m.parts) m.processed.first m.processed.last d m.processed h.processed,
      table_again keys.Confirmed (elements_of most_confirmed_elements m.parts) m.processed.first m.processed.last d m.confirmed h.confirmed,
    ) refl

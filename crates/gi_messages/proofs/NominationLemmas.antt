-- A NOMINT, an ACKNOW and a NOMRES are read exactly where they stand in the relation.
use Rattle.std.proofs.Common.{◌≡◌, ℕ, List, Some, None, Ok, refl, subst}
use Rattle.jiff_core.specs.declared.civil.date.Date.{Date}
use Rattle.serde_json.specs.Data.{Data}
use Rattle.gi_pairs.specs.Table.{covered}
use Rattle.gi_messages.specs.declared.key.Key.TheVariants as keys
use Rattle.gi_messages.specs.declared.head.Span.{Span}
use Rattle.gi_messages.specs.declared.line.Line.{Line}
use Rattle.gi_messages.specs.declared.nomination_line.NominationLine.{NominationLine}
use Rattle.gi_messages.specs.declared.message.Nomint.{Nomint}
use Rattle.gi_messages.specs.declared.message.Acknow.{Acknow}
use Rattle.gi_messages.specs.declared.message.Nomres.{Nomres}
use Rattle.gi_messages.specs.Limits.{last_cycle, last_version}
use Rattle.gi_messages.specs.Grammar.{IsNomint, IsAcknow, IsNomres}
use Rattle.gi_messages.specs.Reading.{◌>>=◌, code, day, number, span, line, nomination_line, lines}
use Rattle.gi_messages.specs.Decoding.{nomint, acknow, nomres}
use Rattle.gi_messages.proofs.FieldLemmas.{bind_ok, Reads-code, Reads-day, Reads-number}
use Rattle.gi_messages.proofs.HeadLemmas.{Reads-span, made_span}
use Rattle.gi_messages.proofs.HoursLemmas.{ok_is}
use Rattle.gi_messages.proofs.LineLemmas.{Reads-lines_for, Reads-nomination_lines}

made_nomint : List ℕ → List ℕ → Date → ℕ → List NominationLine → Nomint
made_nomint point portfolio date version ls = record { point = point; portfolio = portfolio; day = date; version = version; lines = ls }

pub nomint_takes : (d : Data) (m : Nomint) → nomint d ≡ Ok m → IsNomint d m
unfolding nomint made_nomint
nomint_takes d m e =
    let fifth = λ (p q : List ℕ) (w : Date) (v : ℕ). lines (nomination_line None) d >>= λ ls. Ok (made_nomint p q w v ls) in
    let fourth = λ (p q : List ℕ) (w : Date). number 1 last_version keys.Version d >>= fifth p q w in
    let third = λ (p q : List ℕ). day keys.Day d >>= fourth p q in
    let second = λ (p : List ℕ). code keys.Portfolio d >>= third p in
    let p = bind_ok (code keys.Point d) second m e in
    let q = bind_ok (code keys.Portfolio d) (third p.0) m p.2 in
    let w = bind_ok (day keys.Day d) (fourth p.0 q.0) m q.2 in
    let v = bind_ok (number 1 last_version keys.Version d) (fifth p.0 q.0 w.0) m w.2 in
    let ls = bind_ok (lines (nomination_line None) d) (λ ls. Ok (made_nomint p.0 q.0 w.0 v.0 ls)) m v.2 in
    subst {A = Nomint} (IsNomint d) (ok_is (made_nomint p.0 q.0 w.0 v.0 ls.0) m ls.2) (record {
      point = (Reads-code keys.Point).takes d p.0 p.1;
      portfolio = (Reads-code keys.Portfolio).takes d q.0 q.1;
      day = (Reads-day keys.Day).takes d w.0 w.1;
      version = (Reads-number 1 last_version keys.Version).takes d v.0 v.1;
      lines = Reads-nomination_lines.takes d ls.0 ls.1;
    })

pub nomint_again : (d : Data) (m : Nomint) → IsNomint d m → nomint d ≡ Ok m
unfolding nomint
nomint_again d m h =
    rw (
      (Reads-code keys.Point).again d m.point h.point,
      (Reads-code keys.Portfolio).again d m.portfolio h.portfolio,
      (Reads-day keys.Day).again d m.day h.day,
      (Reads-number 1 last_version keys.Version).again d m.version h.version,
      Reads-nomination_lines.again d m.lines h.lines,
    ) refl

made_acknow : List ℕ → List ℕ → Date → ℕ → Acknow
made_acknow point portfolio date version = record { point = point; portfolio = portfolio; day = date; version = version }

pub acknow_takes : (d : Data) (m : Acknow) → acknow d ≡ Ok m → IsAcknow d m
unfolding acknow made_acknow
acknow_takes d m e =
    let fourth = λ (p q : List ℕ) (w : Date). number 1 last_version keys.Version d >>= λ v. Ok (made_acknow p q w v) in
    let third = λ (p q : List ℕ). day keys.Day d >>= fourth p q in
    let second = λ (p : List ℕ). code keys.Portfolio d >>= third p in
    let p = bind_ok (code keys.Point d) second m e in
    let q = bind_ok (code keys.Portfolio d) (third p.0) m p.2 in
    let w = bind_ok (day keys.Day d) (fourth p.0 q.0) m q.2 in
    let v = bind_ok (number 1 last_version keys.Version d) (λ v. Ok (made_acknow p.0 q.0 w.0 v)) m w.2 in
    subst {A = Acknow} (IsAcknow d) (ok_is (made_acknow p.0 q.0 w.0 v.0) m v.2) (record {
      point = (Reads-code keys.Point).takes d p.0 p.1;
      portfolio = (Reads-code keys.Portfolio).takes d q.0 q.1;
      day = (Reads-day keys.Day).takes d w.0 w.1;
      version = (Reads-number 1 last_version keys.Version).takes d v.0 v.1;
    })

pub acknow_again : (d : Data) (m : Acknow) → IsAcknow d m → acknow d ≡ Ok m
unfolding acknow
acknow_again d m h =
    rw (
      (Reads-code keys.Point).again d m.point h.point,
      (Reads-code keys.Portfolio).again d m.portfolio h.portfolio,
      (Reads-day keys.Day).again d m.day h.day,
      (Reads-number 1 last_version keys.Version).again d m.version h.version,
    ) refl

made_nomres : List ℕ → List ℕ → Date → ℕ → Span → List Line → Nomres
made_nomres point portfolio date cycle s ls = record { point = point; portfolio = portfolio; day = date; cycle = cycle; first = s.first; last = s.last; lines = ls }

pub nomres_takes : (d : Data) (m : Nomres) → nomres d ≡ Ok m → IsNomres d m
unfolding nomres made_nomres
nomres_takes d m e =
    let sixth = λ (p q : List ℕ) (w : Date) (c : ℕ) (s : Span). lines (line (Some (covered s.first s.last))) d >>= λ ls. Ok (made_nomres p q w c s ls) in
    let fifth = λ (p q : List ℕ) (w : Date) (c : ℕ). span d >>= sixth p q w c in
    let fourth = λ (p q : List ℕ) (w : Date). number 0 last_cycle keys.Cycle d >>= fifth p q w in
    let third = λ (p q : List ℕ). day keys.Day d >>= fourth p q in
    let second = λ (p : List ℕ). code keys.Portfolio d >>= third p in
    let p = bind_ok (code keys.Point d) second m e in
    let q = bind_ok (code keys.Portfolio d) (third p.0) m p.2 in
    let w = bind_ok (day keys.Day d) (fourth p.0 q.0) m q.2 in
    let c = bind_ok (number 0 last_cycle keys.Cycle d) (fifth p.0 q.0 w.0) m w.2 in
    let s = bind_ok (span d) (sixth p.0 q.0 w.0 c.0) m c.2 in
    let ls = bind_ok (lines (line (Some (covered s.0.first s.0.last))) d) (λ ls. Ok (made_nomres p.0 q.0 w.0 c.0 s.0 ls)) m s.2 in
    let hours = Reads-span.takes d s.0 s.1 in
    subst {A = Nomres} (IsNomres d) (ok_is (made_nomres p.0 q.0 w.0 c.0 s.0 ls.0) m ls.2) (record {
      point = (Reads-code keys.Point).takes d p.0 p.1;
      portfolio = (Reads-code keys.Portfolio).takes d q.0 q.1;
      day = (Reads-day keys.Day).takes d w.0 w.1;
      cycle = (Reads-number 0 last_cycle keys.Cycle).takes d c.0 c.1;
      first = hours.first;
      last = hours.last;
      lines = (Reads-lines_for (covered s.0.first s.0.last)).takes d ls.0 ls.1;
    })

pub nomres_again : (d : Data) (m : Nomres) → IsNomres d m → nomres d ≡ Ok m
unfolding nomres
nomres_again d m h =
    rw (
      (Reads-code keys.Point).again d m.point h.point,
      (Reads-code keys.Portfolio).again d m.portfolio h.portfolio,
      (Reads-day keys.Day).again d m.day h.day,
      (Reads-number 0 last_cycle keys.Cycle).again d m.cycle h.cycle,
      Reads-span.again d (made_span m.first m.last) (record { first = h.first; last = h.last }),
      (Reads-lines_for (covered m.first m.last)).again d m.lines h.lines,
    ) refl

-- The hours of a message, and what an order and a response begin with, are read exactly where they stand in the relation.
use Rattle.std.proofs.Common.{◌≡◌, ℕ, List, Ok, refl, subst}
use Rattle.jiff_core.specs.declared.civil.date.Date.{Date}
use Rattle.serde_json.specs.Data.{Data}
use Rattle.gi_pairs.specs.Limits.{last_hour}
use Rattle.gi_messages.specs.Decoding.{head}
use Rattle.gi_messages.specs.Grammar.{Has, HasOr, IsText, IsWhole, NamesCode, NamesDay}
use Rattle.gi_messages.specs.Limits.{last_cycle, most_parts}
use Rattle.gi_messages.specs.Reading.{◌>>=◌, code, day, number, number_or, span}
use Rattle.gi_messages.specs.declared.head.Head.{Head}
use Rattle.gi_messages.specs.declared.head.Span.{Span}
use Rattle.gi_messages.specs.declared.key.Key.TheVariants as keys
use Rattle.gi_messages.proofs.FieldLemmas.{Reads, bind_ok, Reads-code, Reads-day, Reads-number, Reads-number_or}
use Rattle.gi_messages.proofs.HoursLemmas.{ok_is}

pub record HasSpan (d : Data) (s : Span) : Type 0 where
  pub first : Has (IsWhole 1 last_hour) keys.First d s.first
  pub last : Has (IsWhole s.first last_hour) keys.Last d s.last

abbrev pub made_span : ℕ → ℕ → Span
made_span first last = record { first = first; last = last }

span_takes : (d : Data) (s : Span) → span d ≡ Ok s → HasSpan d s
unfolding span
span_takes d s e =
    let f = bind_ok (number 1 last_hour keys.First d) (λ first. number first last_hour keys.Last d >>= λ last. Ok (made_span first last)) s e in
    let l = bind_ok (number f.0 last_hour keys.Last d) (λ last. Ok (made_span f.0 last)) s f.2 in
    subst {A = Span} (HasSpan d) (ok_is (made_span f.0 l.0) s l.2)
    (record { first = (Reads-number 1 last_hour keys.First).takes d f.0 f.1; last = (Reads-number f.0 last_hour keys.Last).takes d l.0 l.1 })

span_again : (d : Data) (s : Span) → HasSpan d s → span d ≡ Ok s
unfolding span
span_again d s h = rw ((Reads-number 1 last_hour keys.First).again d s.first h.first, (Reads-number s.first last_hour keys.Last).again d s.last h.last) refl

pub Reads-span : Reads span HasSpan
Reads-span = record { takes = span_takes; again = span_again }

pub record HasHead (d : Data) (h : Head) : Type 0 where
  pub point : Has (IsText NamesCode) keys.Point d h.point
  pub day : Has (IsText NamesDay) keys.Day d h.day
  pub cycle : Has (IsWhole 0 last_cycle) keys.Cycle d h.cycle
  pub span : HasSpan d h.span
  pub parts : HasOr 1 (IsWhole 1 most_parts) keys.Parts d h.parts
  pub part : HasOr 1 (IsWhole 1 h.parts) keys.Part d h.part

abbrev pub made_head : List ℕ → Date → ℕ → Span → ℕ → ℕ → Head
made_head point date cycle its_span parts part = record { point = point; day = date; cycle = cycle; span = its_span; parts = parts; part = part }

head_takes : (d : Data) (h : Head) → head d ≡ Ok h → HasHead d h
unfolding head
head_takes d h e =
    let sixth = λ (p : List ℕ) (w : Date) (c : ℕ) (s : Span) (n : ℕ). number_or 1 1 n keys.Part d >>= λ k. Ok (made_head p w c s n k) in
    let fifth = λ (p : List ℕ) (w : Date) (c : ℕ) (s : Span). number_or 1 1 most_parts keys.Parts d >>= sixth p w c s in
    let fourth = λ (p : List ℕ) (w : Date) (c : ℕ). span d >>= fifth p w c in
    let third = λ (p : List ℕ) (w : Date). number 0 last_cycle keys.Cycle d >>= fourth p w in
    let second = λ (p : List ℕ). day keys.Day d >>= third p in
    let p = bind_ok (code keys.Point d) second h e in
    let w = bind_ok (day keys.Day d) (third p.0) h p.2 in
    let c = bind_ok (number 0 last_cycle keys.Cycle d) (fourth p.0 w.0) h w.2 in
    let s = bind_ok (span d) (fifth p.0 w.0 c.0) h c.2 in
    let n = bind_ok (number_or 1 1 most_parts keys.Parts d) (sixth p.0 w.0 c.0 s.0) h s.2 in
    let k = bind_ok (number_or 1 1 n.0 keys.Part d) (λ k. Ok (made_head p.0 w.0 c.0 s.0 n.0 k)) h n.2 in
    subst {A = Head} (HasHead d) {x = made_head p.0 w.0 c.0 s.0 n.0 k.0} (ok_is (made_head p.0 w.0 c.0 s.0 n.0 k.0) h k.2) (record {
      point = (Reads-code keys.Point).takes d p.0 p.1;
      day = (Reads-day keys.Day).takes d w.0 w.1;
      cycle = (Reads-number 0 last_cycle keys.Cycle).takes d c.0 c.1;
      span = span_takes d s.0 s.1;
      parts = (Reads-number_or 1 1 most_parts keys.Parts).takes d n.0 n.1;
      part = (Reads-number_or 1 1 n.0 keys.Part).takes d k.0 k.1;
    })

head_again : (d : Data) (h : Head) → HasHead d h → head d ≡ Ok h
unfolding head
head_again d h is =
    rw (
      (Reads-code keys.Point).again d h.point is.point,
      (Reads-day keys.Day).again d h.day is.day,
      (Reads-number 0 last_cycle keys.Cycle).again d h.cycle is.cycle,
      span_again d h.span is.span,
      (Reads-number_or 1 1 most_parts keys.Parts).again d h.parts is.parts,
      (Reads-number_or 1 1 h.parts keys.Part).again d h.part is.part,
    ) refl

pub Reads-head : Reads head HasHead
Reads-head = record { takes = head_takes; again = head_again }

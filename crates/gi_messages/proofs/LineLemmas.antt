-- A line, and a line of a nomination, are read exactly where they stand in the relation.
use Rattle.std.proofs.Common.{◌≡◌, ℕ, List, Option, Some, None, Ok, refl, subst}
use Rattle.std.specs.Prelude.{is_some}
use Rattle.serde_json.specs.Data.{Data}
use Rattle.serde_json.specs.Find.{as_object}
use Rattle.gi_pairs.specs.declared.direction.Direction.{Direction}
use Rattle.gi_messages.specs.declared.key.Key.TheVariants as keys
use Rattle.gi_messages.specs.declared.line.Line.{Line}
use Rattle.gi_messages.specs.declared.nomination_line.NominationLine.{NominationLine}
use Rattle.gi_messages.specs.Key.{key_text}
use Rattle.gi_messages.specs.Grammar.{Has, AreElements, IsLine, IsLineFor, IsNominationLine}
use Rattle.gi_messages.specs.Limits.{last_priority, usual_priority}
use Rattle.gi_messages.specs.Reading.{◌>>=◌, code, direction, hours, number_or, line, nomination_line, lines}
use Rattle.gi_messages.proofs.FieldLemmas.{Reads, bind_ok, Reads-code, Reads-direction, Reads-number_or, Reads-array}
use Rattle.gi_messages.proofs.HoursLemmas.{guard_ok, ok_is, has_members, AsMany, hours_take, hours_again}

made : List ℕ → Direction → List ℕ → Line
made counterparty way hs = record { counterparty = counterparty; direction = way; hours = hs }

line_takes : (count : Option ℕ) (d : Data) (l : Line) → line count d ≡ Ok l → IsLine d l × AsMany count l.hours
unfolding line made
line_takes count d l e =
    let third = λ (a : List ℕ) (b : Direction). hours count d >>= λ hs. Ok (made a b hs) in
    let second = λ (a : List ℕ). direction keys.Direction d >>= third a in
    let g = guard_ok (is_some (as_object d)) (code keys.Counterparty d >>= second) keys.Lines l e in
    let a = bind_ok (code keys.Counterparty d) second l g.1 in
    let b = bind_ok (direction keys.Direction d) (third a.0) l a.2 in
    let h = bind_ok (hours count d) (λ hs. Ok (made a.0 b.0 hs)) l b.2 in
    let q = hours_take count d h.0 h.1 in
    subst (λ (k : Line). IsLine d k × AsMany count k.hours) (ok_is (made a.0 b.0 h.0) l h.2) (
      record {
        counterparty = (Reads-code keys.Counterparty).takes d a.0 a.1;
        direction = (Reads-direction keys.Direction).takes d b.0 b.1;
        quantities = q.0;
      },
      q.1,
    )

line_again : (count : Option ℕ) (d : Data) (l : Line) → IsLine d l → AsMany count l.hours → line count d ≡ Ok l
unfolding line
line_again count d l h many =
    rw (
      has_members (key_text keys.Counterparty) d h.counterparty.value h.counterparty.found,
      (Reads-code keys.Counterparty).again d l.counterparty h.counterparty,
      (Reads-direction keys.Direction).again d l.direction h.direction,
      hours_again count d l.hours h.quantities many,
    ) refl

pub Reads-line_for : (count : ℕ) → Reads (line (Some count)) (IsLineFor count)
Reads-line_for count = record {
  takes = λ d l e. let t = line_takes (Some count) d l e in record { stands = t.0; whole = t.1 };
  again = λ d l h. line_again (Some count) d l h.stands h.whole;
}

pub Reads-lines_for : (count : ℕ) → Reads (lines (line (Some count))) (Has (AreElements (IsLineFor count)) keys.Lines)
unfolding lines
Reads-lines_for count = Reads-array keys.Lines (line (Some count)) (IsLineFor count) (Reads-line_for count)

-- ---- lines of a nomination, of any length

made_nomination : List ℕ → Direction → List ℕ → ℕ → NominationLine
made_nomination counterparty way hs priority = record { counterparty = counterparty; direction = way; hours = hs; priority = priority }

nomination_takes : (d : Data) (l : NominationLine) → nomination_line None d ≡ Ok l → IsNominationLine d l
unfolding nomination_line made_nomination
nomination_takes d l e =
    let fourth = λ (a : List ℕ) (b : Direction) (hs : List ℕ). number_or usual_priority 1 last_priority keys.Priority d >>= λ p. Ok (made_nomination a b hs p) in
    let third = λ (a : List ℕ) (b : Direction). hours None d >>= fourth a b in
    let second = λ (a : List ℕ). direction keys.Direction d >>= third a in
    let g = guard_ok (is_some (as_object d)) (code keys.Counterparty d >>= second) keys.Lines l e in
    let a = bind_ok (code keys.Counterparty d) second l g.1 in
    let b = bind_ok (direction keys.Direction d) (third a.0) l a.2 in
    let h = bind_ok (hours None d) (fourth a.0 b.0) l b.2 in
    let p = bind_ok (number_or usual_priority 1 last_priority keys.Priority d) (λ p. Ok (made_nomination a.0 b.0 h.0 p)) l h.2 in
    subst (IsNominationLine d) (ok_is (made_nomination a.0 b.0 h.0 p.0) l p.2) (record {
      counterparty = (Reads-code keys.Counterparty).takes d a.0 a.1;
      direction = (Reads-direction keys.Direction).takes d b.0 b.1;
      quantities = (hours_take None d h.0 h.1).0;
      priority = (Reads-number_or usual_priority 1 last_priority keys.Priority).takes d p.0 p.1;
    })

nomination_again : (d : Data) (l : NominationLine) → IsNominationLine d l → nomination_line None d ≡ Ok l
unfolding nomination_line
nomination_again d l h =
    rw (
      has_members (key_text keys.Counterparty) d h.counterparty.value h.counterparty.found,
      (Reads-code keys.Counterparty).again d l.counterparty h.counterparty,
      (Reads-direction keys.Direction).again d l.direction h.direction,
      hours_again None d l.hours h.quantities tt,
      (Reads-number_or usual_priority 1 last_priority keys.Priority).again d l.priority h.priority,
    ) refl

pub Reads-nomination_line : Reads (nomination_line None) IsNominationLine
Reads-nomination_line = record { takes = nomination_takes; again = nomination_again }

pub Reads-nomination_lines : Reads (lines (nomination_line None)) (Has (AreElements IsNominationLine) keys.Lines)
unfolding lines
Reads-nomination_lines = Reads-array keys.Lines (nomination_line None) IsNominationLine Reads-nomination_line

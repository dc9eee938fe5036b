-- A row is read exactly where it stands in the relation.
use Rattle.std.proofs.Common.{◌≡◌, ℕ, List, Some, Ok, refl, subst}
use Rattle.std.specs.Prelude.{is_some}
use Rattle.serde_json.specs.Data.{Data}
use Rattle.serde_json.specs.Find.{as_object}
use Rattle.gi_pairs.specs.declared.direction.Direction.{Direction}
use Rattle.gi_pairs.specs.declared.row.Row.{Row}
use Rattle.gi_messages.specs.declared.key.Key.{Key}
use Rattle.gi_messages.specs.declared.key.Key.TheVariants as keys
use Rattle.gi_messages.specs.Key.{key_text}
use Rattle.gi_messages.specs.Grammar.{IsRowFor}
use Rattle.gi_messages.specs.Reading.{◌>>=◌, code, direction, hours, row}
use Rattle.gi_messages.proofs.FieldLemmas.{Reads, bind_ok, Reads-code, Reads-direction}
use Rattle.gi_messages.proofs.HoursLemmas.{guard_ok, ok_is, has_members, hours_take, hours_again}

made : List ℕ → List ℕ → Direction → List ℕ → Row
made initiating matching way hs = record { pair = record { initiating = initiating; matching = matching }; direction = way; hours = hs }

row_takes : (key : Key) (count : ℕ) (d : Data) (r : Row) → row key count d ≡ Ok r → IsRowFor count d r
unfolding row made
row_takes key count d r e =
    let fourth = λ (a b : List ℕ) (c : Direction). hours (Some count) d >>= λ hs. Ok (made a b c hs) in
    let third = λ (a b : List ℕ). direction keys.Direction d >>= fourth a b in
    let second = λ (a : List ℕ). code keys.Matching d >>= third a in
    let g = guard_ok (is_some (as_object d)) (code keys.Initiating d >>= second) key r e in
    let a = bind_ok (code keys.Initiating d) second r g.1 in
    let b = bind_ok (code keys.Matching d) (third a.0) r a.2 in
    let c = bind_ok (direction keys.Direction d) (fourth a.0 b.0) r b.2 in
    let h = bind_ok (hours (Some count) d) (λ hs. Ok (made a.0 b.0 c.0 hs)) r c.2 in
    let q = hours_take (Some count) d h.0 h.1 in
    subst (IsRowFor count d) (ok_is (made a.0 b.0 c.0 h.0) r h.2) (record {
      initiating = (Reads-code keys.Initiating).takes d a.0 a.1;
      matching = (Reads-code keys.Matching).takes d b.0 b.1;
      direction = (Reads-direction keys.Direction).takes d c.0 c.1;
      quantities = q.0;
      whole = q.1;
    })

row_again : (key : Key) (count : ℕ) (d : Data) (r : Row) → IsRowFor count d r → row key count d ≡ Ok r
unfolding row
row_again key count d r h =
    rw (
      has_members (key_text keys.Initiating) d h.initiating.value h.initiating.found,
      (Reads-code keys.Initiating).again d r.pair.initiating h.initiating,
      (Reads-code keys.Matching).again d r.pair.matching h.matching,
      (Reads-direction keys.Direction).again d r.direction h.direction,
      hours_again (Some count) d r.hours h.quantities h.whole,
    ) refl

pub Reads-row : (key : Key) (count : ℕ) → Reads (row key count) (IsRowFor count)
Reads-row key count = record { takes = row_takes key count; again = row_again key count }

-- What a verdict says of a nomination.
use Rattle.std.proofs.Common.{◌≡◌, ◌<◌, nat_eq, List, [], ◌∷◌, Bool, true, false, cond, not, Option, Some, None, nat_lt, ltb-true, ltb-false, refl, ap, arith}
use Rattle.std.specs.Cmp.Lexicographic.{pointwise}
use Rattle.std.specs.Str.{bytes_eq}
use Rattle.std.proofs.lemmas.Bool.{and_parts}
use Rattle.std.proofs.lemmas.Bool.Decides.{Decides-eqb}
use Rattle.std.proofs.lemmas.Option.{same_Some}
use Rattle.std.proofs.lemmas.Slice.Eq.{bytes_eq-Decides}
use Rattle.gi_day.specs.Cycles.{hour_count}
use Rattle.gi_pairs.specs.Direction.{place_of}
use Rattle.gi_pairs.specs.declared.direction.Direction.{Direction}
use Rattle.gi_pairs.specs.declared.direction.Direction.TheVariants.{IM, MI}
use Rattle.gi_messages.specs.Lines.{line_eq}
use Rattle.gi_messages.specs.declared.nomination_line.NominationLine.{NominationLine}
use Rattle.gi_messages.specs.declared.message.Nomint.{Nomint}
use Rattle.gi_nominations.specs.Book.{Documents, in_force}
use Rattle.gi_nominations.specs.Lines.{lines_fault}
use Rattle.gi_nominations.specs.Judging.{verdict, by_version, or_else, is_day_over, IsRecordable, IsRepeat}
use Rattle.gi_nominations.specs.declared.nomination_fault.NominationFault.{NominationFault}
use Rattle.gi_nominations.specs.declared.nomination_fault.NominationFault.TheVariants.{WrongPoint, UnknownPortfolio, DayOver, Stale, Conflict}
use Rattle.gi_nominations.specs.declared.setting.Setting.{Setting}
use Rattle.gi_nominations.specs.declared.verdict.Verdict.{Verdict}
use Rattle.gi_nominations.specs.declared.verdict.Verdict.TheVariants.{Recordable, Repeat, Refused}

-- a verdict that is no refusal
abbrev Accepts : Verdict → Type 0
Accepts v = (fault : NominationFault) → Refused fault ≡ v → ⊥

passed : (b : Bool) (fault : NominationFault) (next v : Verdict) → Accepts v → cond b (Refused fault) next ≡ v → (b ≡ false) × (next ≡ v)
passed true fault next v accepts e = absurd (accepts fault e)
passed false fault next v accepts e = (refl, e)

passed_lines : (o : Option NominationFault) (next v : Verdict) → Accepts v → or_else o next ≡ v → (o ≡ None) × (next ≡ v)
passed_lines (Some fault) next v accepts e = absurd (accepts fault e)
passed_lines None next v accepts e = (refl, e)

holds : (b : Bool) → not b ≡ false → b ≡ true
holds true e = refl
holds false e = absurd cc

-- what all nominations have that are not refused
record IsAccepted (book : Documents) (setting : Setting) (document : Nomint) (v : Verdict) : Type 0 where
  pub point : document.point ≡ book.point
  pub known : setting.known ≡ true
  pub lines : lines_fault (hour_count setting.frame) document.lines ≡ None
  pub not_over : is_day_over setting.frame setting.last_closed ≡ false
  pub by : by_version (in_force document.portfolio document.day book.documents) document ≡ v

accepted : (book : Documents) (setting : Setting) (document : Nomint) (v : Verdict) → Accepts v → verdict book setting document ≡ v → IsAccepted book setting document v
unfolding verdict
accepted book setting document v accepts e =
    let held = by_version (in_force document.portfolio document.day book.documents) document in
    let over = cond (is_day_over setting.frame setting.last_closed) (Refused DayOver) held in
    let lines = or_else (lines_fault (hour_count setting.frame) document.lines) over in
    let known = cond (not setting.known) (Refused UnknownPortfolio) lines in
    let a = passed (not (bytes_eq document.point book.point)) WrongPoint known v accepts e in
    let b = passed (not setting.known) UnknownPortfolio lines v accepts a.1 in
    let c = passed_lines (lines_fault (hour_count setting.frame) document.lines) over v accepts b.1 in
    let d = passed (is_day_over setting.frame setting.last_closed) DayOver held v accepts c.1 in
    record {
      point = (bytes_eq-Decides document.point book.point).0 (holds (bytes_eq document.point book.point) a.0);
      known = holds setting.known b.0;
      lines = c.0;
      not_over = d.0;
      by = d.1;
    }

-- ---- by the version

newer_by : (held document : Nomint) (newer older same : Bool) → nat_lt held.version document.version ≡ newer
    → cond newer Recordable (cond older (Refused (Stale held.version)) (cond same Repeat (Refused (Conflict held.version)))) ≡ Recordable → held.version < document.version
newer_by held document true older same is e = ltb-true held.version document.version is
newer_by held document false true same is e = absurd cc
newer_by held document false false true is e = absurd cc
newer_by held document false false false is e = absurd cc

newer_than : (o : Option Nomint) (document held : Nomint) → by_version o document ≡ Recordable → o ≡ Some held → held.version < document.version
newer_than None document held e is = absurd cc
newer_than (Some other) document held e is =
    let same : other ≡ held = same_Some other held is in
    let less = newer_by other document (nat_lt other.version document.version) (nat_lt document.version other.version) (pointwise line_eq document.lines other.lines) refl e in
    let version = ap (λ (x : Nomint). x.version) same in
    omega (arith, less, version)

pub verdict-recordable : (book : Documents) (setting : Setting) (document : Nomint) → verdict book setting document ≡ Recordable → IsRecordable book setting document
verdict-recordable book setting document e =
    let all = accepted book setting document Recordable (λ fault no. absurd cc) e in
    record {
      point = all.point;
      known = all.known;
      lines = all.lines;
      not_over = all.not_over;
      newer = λ held is. newer_than (in_force document.portfolio document.day book.documents) document held all.by is;
    }

direction_same : (a b : Direction) → place_of a ≡ place_of b → a ≡ b
direction_same IM IM e = refl
direction_same IM MI e = absurd (omega (arith, e))
direction_same MI IM e = absurd (omega (arith, e))
direction_same MI MI e = refl

line_takes : (a b : NominationLine) → line_eq a b ≡ true → a ≡ b
line_takes a b is =
    let first = and_parts (bytes_eq a.counterparty b.counterparty) _ is in
    let second = and_parts _ _ first.1 in
    let third = and_parts (bytes_eq a.hours b.hours) (nat_eq a.priority b.priority) second.1 in
    let counterparty = (bytes_eq-Decides a.counterparty b.counterparty).0 first.0 in
    let direction = direction_same a.direction b.direction ((Decides-eqb (place_of a.direction) (place_of b.direction)).0 second.0) in
    let hours = (bytes_eq-Decides a.hours b.hours).0 third.0 in
    let priority = (Decides-eqb a.priority b.priority).0 third.1 in
    λ i. record { counterparty = counterparty i; direction = direction i; hours = hours i; priority = priority i }

lines_take : (xs ys : List NominationLine) → pointwise line_eq xs ys ≡ true → xs ≡ ys
lines_take [] [] is = refl
lines_take [] (y ∷ ys) is = absurd cc
lines_take (x ∷ xs) [] is = absurd cc
lines_take (x ∷ xs) (y ∷ ys) is =
    let both = and_parts (line_eq x y) (pointwise line_eq xs ys) is in
    let first = line_takes x y both.0 in
    let rest = lines_take xs ys both.1 in
    λ i. first i ∷ rest i

-- the tests that a repeat passes
repeat_by : (held document : Nomint) (newer older same : Bool) → nat_lt held.version document.version ≡ newer → nat_lt document.version held.version ≡ older
    → pointwise line_eq document.lines held.lines ≡ same → cond newer Recordable (cond older (Refused (Stale held.version)) (cond same Repeat (Refused (Conflict held.version)))) ≡ Repeat
    → (document.version ≡ held.version) × (document.lines ≡ held.lines)
repeat_by held document true older same newer_is older_is same_is e = absurd cc
repeat_by held document false true same newer_is older_is same_is e = absurd cc
repeat_by held document false false false newer_is older_is same_is e = absurd cc
repeat_by held document false false true newer_is older_is same_is e =
    let above = ltb-false held.version document.version newer_is in
    let below = ltb-false document.version held.version older_is in
    (omega (arith, above, below), lines_take document.lines held.lines same_is)

repeat_of : (o : Option Nomint) (book : Documents) (document : Nomint) → in_force document.portfolio document.day book.documents ≡ o → by_version o document ≡ Repeat → IsRepeat book document
repeat_of None book document is e = absurd cc
repeat_of (Some held) book document is e =
    let both = repeat_by held document (nat_lt held.version document.version) (nat_lt document.version held.version) (pointwise line_eq document.lines held.lines) refl refl refl e in
    record { held = held; in_force = is; version = both.0; lines = both.1 }

pub verdict-repeat : (book : Documents) (setting : Setting) (document : Nomint) → verdict book setting document ≡ Repeat → IsRepeat book document
verdict-repeat book setting document e =
    let all = accepted book setting document Repeat (λ fault no. absurd cc) e in
    repeat_of (in_force document.portfolio document.day book.documents) book document refl all.by

-- ---- of two books

-- Where two books are of one point and have the same document in force for a nomination's portfolio and gas day, the verdict on it is the same.
pub verdict-same : (book other : Documents) (setting : Setting) (document : Nomint) → book.point ≡ other.point
    → in_force document.portfolio document.day book.documents ≡ in_force document.portfolio document.day other.documents → verdict book setting document ≡ verdict other setting document
unfolding verdict
verdict-same book other setting document point held = rw (point, held) refl

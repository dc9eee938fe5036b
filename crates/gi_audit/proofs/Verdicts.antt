-- What an audit comes to, and when each verdict is told.
use Rattle.std.proofs.Common.{◌≡◌, ◌↔◌, inl, inr, ◌≤◌, List, [], ◌∷◌, length, Bool, true, false, ◌||◌, is_some, Option, Some, None, refl, sym, ap, ◌∙◌, subst, arith, true≢false}
use Rattle.std.specs.List.{list_any}
use Rattle.gi_pairs.specs.Table.{TableContents}
use Rattle.gi_pairs.specs.declared.cycle_id.CycleId.{CycleId}
use Rattle.gi_pairs.specs.declared.side.Side.{Side}
use Rattle.gi_pairs.specs.declared.side.Side.TheVariants.{I, M}
use Rattle.gi_pairs.proofs.Building.{In, contains_from_in, in_from_contains}
use Rattle.gi_desk.specs.History.{is_closed}
use Rattle.gi_desk.specs.Machine.{DeskState}
use Rattle.gi_desk.specs.Queries.{confirmed}
use Rattle.gi_desk.proofs.Confirmed.{met_closed}
use Rattle.gi_world.specs.Agreement.{IsLegal, saved_facts}
use Rattle.gi_world.proofs.Fronts.{front-met, saved-front}
use Rattle.gi_audit.specs.Agreeing.{Agree}
use Rattle.gi_audit.specs.Cycles.{AreClosedAtEither}
use Rattle.gi_audit.specs.Finding.{agrees, difference, finding, found_by, is_agreed, undisputed}
use Rattle.gi_audit.specs.Verdict.{CloseOneCycle, ConfirmOneCycle, IsToldExactly, any_agrees, first_difference, names_difference, verdict_by, verdict_on}
use Rattle.gi_audit.specs.declared.difference.Difference.{Difference}
use Rattle.gi_audit.specs.declared.verdict.Verdict.{Verdict}
use Rattle.gi_audit.specs.declared.verdict.Verdict.TheVariants as told
use Rattle.gi_audit.proofs.AgreeLaws.{agree_at_all, agreed-exactly, confirmed_from}
use Rattle.gi_audit.proofs.FindingLemmas.{no-difference}

-- ---- from what each verdict comes

empty_by : (first : Option CycleId) (agreed : Bool) (ids : List CycleId) → first ≡ None → length ids ≡ 0 → verdict_by first agreed ids ≡ told.Empty
empty_by None agreed [] none bare = refl
empty_by None agreed (id ∷ ids) none bare = absurd (omega (arith, bare))
empty_by (Some id) agreed ids none bare = absurd cc

agreed_by : (first : Option CycleId) (agreed : Bool) (ids : List CycleId) → first ≡ None → agreed ≡ true → 1 ≤ length ids → verdict_by first agreed ids ≡ told.Agreed
agreed_by None true (id ∷ ids) none is some = refl
agreed_by None true [] none is some = absurd (omega (arith, some))
agreed_by None false ids none is some = absurd (true≢false (sym is))
agreed_by (Some id) agreed ids none is some = absurd cc

open_by : (first : Option CycleId) (agreed : Bool) (ids : List CycleId) → first ≡ None → agreed ≡ false → 1 ≤ length ids → verdict_by first agreed ids ≡ told.Open
open_by None false (id ∷ ids) none is some = refl
open_by None false [] none is some = absurd (omega (arith, some))
open_by None true ids none is some = absurd (true≢false is)
open_by (Some id) agreed ids none is some = absurd cc

from_empty : (first : Option CycleId) (agreed : Bool) (ids : List CycleId) → verdict_by first agreed ids ≡ told.Empty → length ids ≡ 0
from_empty None agreed [] e = refl
from_empty None true (id ∷ ids) e = absurd cc
from_empty None false (id ∷ ids) e = absurd cc
from_empty (Some id) agreed ids e = absurd cc

from_agreed : (first : Option CycleId) (agreed : Bool) (ids : List CycleId) → verdict_by first agreed ids ≡ told.Agreed → (first ≡ None) × (agreed ≡ true)
from_agreed None agreed [] e = absurd cc
from_agreed None true (id ∷ ids) e = (refl, refl)
from_agreed None false (id ∷ ids) e = absurd cc
from_agreed (Some id) agreed ids e = absurd cc

from_open : (first : Option CycleId) (agreed : Bool) (ids : List CycleId) → verdict_by first agreed ids ≡ told.Open → (first ≡ None) × (agreed ≡ false) × (1 ≤ length ids)
from_open None agreed [] e = absurd cc
from_open None true (id ∷ ids) e = absurd cc
from_open None false (id ∷ ids) e = (refl, refl, omega arith)
from_open (Some id) agreed ids e = absurd cc

unnamed_by : (agreed : Bool) (ids : List CycleId) → names_difference (verdict_by None agreed ids) ≡ false
unnamed_by agreed [] = refl
unnamed_by true (id ∷ ids) = refl
unnamed_by false (id ∷ ids) = refl

from_unnamed : (first : Option CycleId) (agreed : Bool) (ids : List CycleId) → names_difference (verdict_by first agreed ids) ≡ false → first ≡ None
from_unnamed None agreed ids e = refl
from_unnamed (Some id) agreed ids e = absurd (true≢false e)

names-difference : (first : Option CycleId) (agreed : Bool) (ids : List CycleId) → (names_difference (verdict_by first agreed ids) ≡ false) ↔ (first ≡ None)
names-difference first agreed ids = (
  λ e. from_unnamed first agreed ids e,
  λ none. subst (λ (found : Option CycleId). names_difference (verdict_by found agreed ids) ≡ false) (sym none) (unnamed_by agreed ids),
)

-- ---- a cycle that is agreed

both_by : (first second : Option Difference) (ours theirs : Option TableContents) → is_agreed (found_by first second (undisputed ours theirs)) ≡ true
    → (is_some ours ≡ true) × (is_some theirs ≡ true)
both_by None None (Some ours) (Some theirs) e = (refl, refl)
both_by None None (Some ours) None e = absurd (true≢false (sym e))
both_by None None None (Some theirs) e = absurd (true≢false (sym e))
both_by None None None None e = absurd (true≢false (sym e))
both_by None (Some d) ours theirs e = absurd (true≢false (sym e))
both_by (Some d) second ours theirs e = absurd (true≢false (sym e))

by_both : (first second : Option Difference) (ours theirs : Option TableContents) → first ≡ None → second ≡ None → is_some ours ≡ true → is_some theirs ≡ true
    → is_agreed (found_by first second (undisputed ours theirs)) ≡ true
by_both None None (Some ours) (Some theirs) first second a b = refl
by_both None None (Some ours) None first second a b = absurd (true≢false (sym b))
by_both None None None theirs first second a b = absurd (true≢false (sym a))
by_both None (Some d) ours theirs first second a b = absurd cc
by_both (Some d) other ours theirs first second a b = absurd cc

agreed_from : (s t : DeskState) (id : CycleId) → agrees s t id ≡ true → ConfirmOneCycle s t
unfolding agrees finding
agreed_from s t id e =
    let both = both_by (difference M I t s id) (difference I M s t id) (confirmed I s id) (confirmed M t id) e in record { id = id; ours = both.0; theirs = both.1 }

agrees_of : (s t : DeskState) (id : CycleId) → Agree s t → is_some (confirmed I s id) ≡ true → is_some (confirmed M t id) ≡ true → agrees s t id ≡ true
unfolding agrees finding
agrees_of s t id agree ours theirs =
    let here = agree_at_all s t agree id in
    by_both (difference M I t s id) (difference I M s t id) (confirmed I s id) (confirmed M t id) ((no-difference M I t s id).1 here.matching_met)
    ((no-difference I M s t id).1 here.initiating_met) ours theirs

some_table : (o : Option TableContents) → is_some o ≡ true → (table : TableContents) × (o ≡ Some table)
some_table None e = absurd (true≢false (sym e))
some_table (Some table) e = (table, refl)

confirmed_closed : (side : Side) (s : DeskState) (id : CycleId) → IsLegal side s → is_some (confirmed side s id) ≡ true → is_closed id s.facts ≡ true
confirmed_closed side s id legal some =
    let (table, is) = some_table (confirmed side s id) some in
    let (peer, saved) = confirmed_from side s id table is in
    met_closed side s.point s.facts id peer legal.legal (front-met (saved_facts s) s.facts id peer (saved-front s) saved)

-- ---- some of them

any_by : (s t : DeskState) (id : CycleId) (ids : List CycleId) (b : Bool) → agrees s t id ≡ b → (any_agrees s t ids ≡ true → ConfirmOneCycle s t)
    → (b || any_agrees s t ids) ≡ true → ConfirmOneCycle s t
any_by s t id ids true is rest e = agreed_from s t id is
any_by s t id ids false is rest e = rest e

any_from : (s t : DeskState) (ids : List CycleId) → any_agrees s t ids ≡ true → ConfirmOneCycle s t
any_from s t [] e = absurd (true≢false (sym e))
any_from s t (id ∷ ids) e = any_by s t id ids (agrees s t id) refl (any_from s t ids) e

or_true : (a b : Bool) → b ≡ true → (a || b) ≡ true
or_true true b e = refl
or_true false b e = e

any_in : (test : CycleId → Bool) (id : CycleId) (ids : List CycleId) → In id ids → test id ≡ true → list_any test ids ≡ true
any_in test id [] there e = absurd there
any_in test id (other ∷ ids) (inl is) e = ap (λ (b : Bool). b || list_any test ids) (ap test is ∙ e)
any_in test id (other ∷ ids) (inr later) e = or_true (test other) (list_any test ids) (any_in test id ids later e)

any_of : (s t : DeskState) (ids : List CycleId) → IsLegal I s → AreClosedAtEither s t ids → Agree s t → ConfirmOneCycle s t → any_agrees s t ids ≡ true
any_of s t ids ours closed agree one =
    let there = in_from_contains one.id ids ((closed.closed one.id).1 (inl (confirmed_closed I s one.id ours one.ours))) in
    any_in (agrees s t) one.id ids there (agrees_of s t one.id agree one.ours one.theirs)

none_agreed : (s t : DeskState) (ids : List CycleId) (b : Bool) → any_agrees s t ids ≡ b → ¬ (ConfirmOneCycle s t) → b ≡ false
none_agreed s t ids true is none = absurd (none (any_from s t ids is))
none_agreed s t ids false is none = refl

some_ids : (s t : DeskState) (ids : List CycleId) → any_agrees s t ids ≡ true → 1 ≤ length ids
some_ids s t [] e = absurd (true≢false (sym e))
some_ids s t (id ∷ ids) e = omega arith

close_one : (s t : DeskState) (ids : List CycleId) → AreClosedAtEither s t ids → 1 ≤ length ids → CloseOneCycle s t
close_one s t [] closed some = absurd (omega (arith, some))
close_one s t (id ∷ ids) closed some = record { id = id; closed = (closed.closed id).0 (contains_from_in id (id ∷ ids) (inl refl)) }

some_closed : (s t : DeskState) (ids : List CycleId) → AreClosedAtEither s t ids → CloseOneCycle s t → 1 ≤ length ids
some_closed s t [] closed one = absurd (in_from_contains one.id [] ((closed.closed one.id).1 one.closed))
some_closed s t (id ∷ ids) closed one = omega arith

no_ids : (s t : DeskState) (ids : List CycleId) → AreClosedAtEither s t ids → ¬ (CloseOneCycle s t) → length ids ≡ 0
no_ids s t [] closed none = refl
no_ids s t (id ∷ ids) closed none = absurd (none (close_one s t (id ∷ ids) closed (omega arith)))

no_first : (s t : DeskState) (ids : List CycleId) → length ids ≡ 0 → first_difference s t ids ≡ None
no_first s t [] bare = refl
no_first s t (id ∷ ids) bare = absurd (omega (arith, bare))

-- ---- when each is told

told_agreed : (s t : DeskState) (ids : List CycleId) → IsLegal I s → AreClosedAtEither s t ids → (first_difference s t ids ≡ None) ↔ Agree s t
    → (verdict_on s t ids ≡ told.Agreed) ↔ (Agree s t × ConfirmOneCycle s t)
told_agreed s t ids ours closed exactly =
    let first = first_difference s t ids in
    let agreed = any_agrees s t ids in (
      λ e. let parts = from_agreed first agreed ids e in (exactly.0 parts.0, any_from s t ids parts.1),
      λ both.
          let any = any_of s t ids ours closed both.0 both.1 in
          agreed_by first agreed ids (exactly.1 both.0) any (some_ids s t ids any),
    )

told_open : (s t : DeskState) (ids : List CycleId) → IsLegal I s → AreClosedAtEither s t ids → (first_difference s t ids ≡ None) ↔ Agree s t
    → (verdict_on s t ids ≡ told.Open) ↔ (Agree s t × CloseOneCycle s t × ¬ (ConfirmOneCycle s t))
told_open s t ids ours closed exactly =
    let first = first_difference s t ids in
    let agreed = any_agrees s t ids in (
      λ e.
          let parts = from_open first agreed ids e in
          let agree = exactly.0 parts.0 in
          (agree, close_one s t ids closed parts.2, λ one. true≢false (sym (any_of s t ids ours closed agree one) ∙ parts.1)),
      λ all. open_by first agreed ids (exactly.1 all.0) (none_agreed s t ids agreed refl all.2) (some_closed s t ids closed all.1),
    )

told_empty : (s t : DeskState) (ids : List CycleId) → AreClosedAtEither s t ids → (verdict_on s t ids ≡ told.Empty) ↔ ¬ (CloseOneCycle s t)
told_empty s t ids closed =
    let first = first_difference s t ids in
    let agreed = any_agrees s t ids in (
      λ e one.
          let some = some_closed s t ids closed one in
          let bare = from_empty first agreed ids e in
          omega (arith, some, bare),
      λ none. let bare = no_ids s t ids closed none in empty_by first agreed ids (no_first s t ids bare) bare,
    )

on_ids : (s t : DeskState) (ids : List CycleId) → IsLegal I s → IsLegal M t → AreClosedAtEither s t ids → IsToldExactly s t (verdict_on s t ids)
on_ids s t ids ours theirs closed =
    let exactly = agreed-exactly s t ids ours theirs closed in
    record {
      told_agreed = told_agreed s t ids ours closed exactly;
      told_open = told_open s t ids ours closed exactly;
      told_empty = told_empty s t ids closed;
    }

-- ---- an audit

pub verdict-is : (s t : DeskState) (ids gone again : List CycleId) (first : Option CycleId) (agreed : Bool) (verdict : Verdict) → gone ≡ ids → again ≡ ids
    → first ≡ first_difference s t gone → agreed ≡ any_agrees s t gone → verdict ≡ verdict_by first agreed again → verdict ≡ verdict_on s t ids
verdict-is s t ids gone again first agreed verdict gone_is again_is first_is agreed_is is =
    is ∙ (λ k. verdict_by (first_is k) (agreed_is k) (again_is k))
    ∙ ap (λ (list : List CycleId). verdict_by (first_difference s t list) (any_agrees s t list) ids) gone_is

pub verdict-told : (s t : DeskState) (ids : List CycleId) (verdict : Verdict) → IsLegal I s → IsLegal M t → AreClosedAtEither s t ids → verdict ≡ verdict_on s t ids → IsToldExactly s t verdict
verdict-told s t ids verdict ours theirs closed is = subst (IsToldExactly s t) (sym is) (on_ids s t ids ours theirs closed)

pub verdict-exactly : (s t : DeskState) (ids : List CycleId) (verdict : Verdict) → IsLegal I s → IsLegal M t → AreClosedAtEither s t ids → verdict ≡ verdict_on s t ids
    → (names_difference verdict ≡ false) ↔ Agree s t
verdict-exactly s t ids verdict ours theirs closed is =
    let named = names-difference (first_difference s t ids) (any_agrees s t ids) ids in
    let exactly = agreed-exactly s t ids ours theirs closed in
    subst (λ (told : Verdict). (names_difference told ≡ false) ↔ Agree s t) (sym is) (λ e. exactly.0 (named.0 e), λ agree. named.1 (exactly.1 agree))

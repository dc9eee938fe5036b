-- What two desks agree on, found cycle by cycle, and what comes of it.
use Rattle.std.proofs.Common.{◌≡◌, ◌↔◌, inl, inr, List, [], ◌∷◌, find, Bool, true, false, cond, Option, Some, None, is_some, option_map, refl, sym, ap, ◌∙◌, subst, arith, true≢false}
use Rattle.std.proofs.lemmas.List.{take-take}
use Rattle.gi_pairs.specs.Table.{TableContents}
use Rattle.gi_pairs.specs.declared.cycle_id.CycleId.{CycleId}
use Rattle.gi_pairs.specs.declared.side.Side.{Side}
use Rattle.gi_pairs.specs.declared.side.Side.TheVariants.{I, M}
use Rattle.gi_pairs.proofs.Building.{In, in_from_contains}
use Rattle.gi_lesser.specs.Lesser.{lesser_of}
use Rattle.gi_desk.specs.History.{frozen_table, is_closed, peer_of}
use Rattle.gi_desk.specs.Machine.{DeskState, started_again}
use Rattle.gi_desk.specs.Queries.{confirmed}
use Rattle.gi_desk.specs.Writable.{FitsDesk}
use Rattle.gi_desk.proofs.Confirmed.{met_closed}
use Rattle.gi_facts.specs.declared.fact.Fact.{Fact}
use Rattle.gi_world.specs.Agreement.{FitsWorld, IsLegal, MeetsAfter, MeetsFrozen, saved_facts}
use Rattle.gi_world.specs.Confirming.{ConfirmsAtBoth, ConfirmsTheLower}
use Rattle.gi_world.specs.World.{other, station_of}
use Rattle.gi_world.proofs.ConfirmedLaws.{HaveMetFrozen, confirms-lower}
use Rattle.gi_world.proofs.Fronts.{front-frozen, front-met, saved-front}
use Rattle.gi_audit.specs.Agreeing.{Agree, world_of}
use Rattle.gi_audit.specs.Cycles.{AreClosedAtEither}
use Rattle.gi_audit.specs.Finding.{difference, differs, finding, found_by, undisputed}
use Rattle.gi_audit.specs.declared.difference.Difference.{Difference}
use Rattle.gi_audit.specs.declared.finding.Finding.TheVariants.{OpenAtBoth}
use Rattle.gi_audit.specs.Verdict.{first_difference}
use Rattle.gi_audit.specs.Laws.{AgreeingDesksConfirmOneQuantity, OpenAtBothIsOpen, TheMatchingSideConfirmsFirst, WorldsAgree}
use Rattle.gi_audit.proofs.FindingLemmas.{AgreeAt, agrees-at, no-difference}

-- ---- all cycles

-- what is not closed is not met
not_met : (side : Side) (s : DeskState) (id : CycleId) (table : TableContents) → IsLegal side s → is_closed id s.facts ≡ false → peer_of id s.facts ≡ Some table → ⊥
not_met side s id table legal unclosed met = true≢false (sym (met_closed side s.point s.facts id table legal.legal met) ∙ unclosed)

none_open : (s t : DeskState) (id : CycleId) → IsLegal I s → IsLegal M t → is_closed id s.facts ≡ false → is_closed id t.facts ≡ false → AgreeAt s t id
none_open s t id ours theirs fresh untold = record {
  matching_met = λ table met. absurd (not_met M t id table theirs untold met);
  initiating_met = λ table met. absurd (not_met I s id table ours fresh met);
}

find_none_by : {X : Type 0} (test : X → Bool) (y x : X) (ys : List X) (b : Bool) → test y ≡ b → (find test ys ≡ None → In x ys → test x ≡ false)
    → cond b (Some y) (find test ys) ≡ None → In x (y ∷ ys) → test x ≡ false
find_none_by test y x ys true e rest found there = absurd cc
find_none_by test y x ys false e rest found (inl is) = ap test (sym is) ∙ e
find_none_by test y x ys false e rest found (inr later) = rest found later

find_none : {X : Type 0} (test : X → Bool) (xs : List X) → find test xs ≡ None → (x : X) → In x xs → test x ≡ false
find_none test [] none x there = absurd there
find_none test (y ∷ ys) none x there = find_none_by test y x ys (test y) refl (λ found later. find_none test ys found x later) none there

none_find : {X : Type 0} (test : X → Bool) (xs : List X) → ((x : X) → In x xs → test x ≡ false) → find test xs ≡ None
none_find test [] all = refl
none_find test (x ∷ xs) all = rw (all x (inl refl)) (none_find test xs (λ y there. all y (inr there)))

at_all_by : (s t : DeskState) (ids : List CycleId) → IsLegal I s → IsLegal M t → AreClosedAtEither s t ids → first_difference s t ids ≡ None
    → (id : CycleId) (a b : Bool) → is_closed id s.facts ≡ a → is_closed id t.facts ≡ b → AgreeAt s t id
at_all_by s t ids ours theirs closed none id false false fresh untold = none_open s t id ours theirs fresh untold
at_all_by s t ids ours theirs closed none id true b is untold =
    (agrees-at s t id).0 (find_none (differs s t) ids none id (in_from_contains id ids ((closed.closed id).1 (inl is))))
at_all_by s t ids ours theirs closed none id false true fresh is =
    (agrees-at s t id).0 (find_none (differs s t) ids none id (in_from_contains id ids ((closed.closed id).1 (inr is))))

-- ---- in the words of the worlds

at_all_agree : (s t : DeskState) → IsLegal M t → ((id : CycleId) → AgreeAt s t id) → Agree s t
at_all_agree s t theirs all = record {
  initiating_met = λ id table met. let is = (all id).initiating_met table met in (is.closed, is.same);
  matching_met = λ id table met. let is = (all id).matching_met table met in (is.closed, is.same);
  after = λ id table met. ((all id).initiating_met table met).sent;
}

pub agree_at_all : (s t : DeskState) → Agree s t → (id : CycleId) → AgreeAt s t id
agree_at_all s t agree id = record {
  matching_met = λ table met. let is = agree.matching_met id table met in record { closed = is.0; sent = is.0; same = is.1 };
  initiating_met = λ table met. let is = agree.initiating_met id table met in record { closed = is.0; sent = agree.after id table met; same = is.1 };
}

pub agreed-exactly : (s t : DeskState) (ids : List CycleId) → IsLegal I s → IsLegal M t → AreClosedAtEither s t ids → (first_difference s t ids ≡ None) ↔ Agree s t
agreed-exactly s t ids ours theirs closed = (
  λ none. at_all_agree s t theirs (λ id. at_all_by s t ids ours theirs closed none id (is_closed id s.facts) (is_closed id t.facts) refl refl),
  λ agree. none_find (differs s t) ids (λ id there. (agrees-at s t id).1 (agree_at_all s t agree id)),
)

-- ---- one quantity

mapped_from : (own : TableContents) (met : Option TableContents) (table : TableContents) → option_map (lesser_of own) met ≡ Some table → (peer : TableContents) × (met ≡ Some peer)
mapped_from own None table e = absurd cc
mapped_from own (Some peer) table e = (peer, refl)

pub confirmed_from : (side : Side) (s : DeskState) (id : CycleId) (table : TableContents) → confirmed side s id ≡ Some table → (peer : TableContents) × (peer_of id (saved_facts s) ≡ Some peer)
unfolding confirmed
confirmed_from side s id table e = mapped_from (frozen_table side s.facts id) (peer_of id (saved_facts s)) table e

mapped_some : (own : TableContents) (met : Option TableContents) → is_some met ≡ true → is_some (option_map (lesser_of own) met) ≡ true
mapped_some own None e = e
mapped_some own (Some peer) e = refl

confirmed_some : (side : Side) (s : DeskState) (id : CycleId) → is_some (peer_of id (saved_facts s)) ≡ true → is_some (confirmed side s id) ≡ true
unfolding confirmed
confirmed_some side s id e = mapped_some (frozen_table side s.facts id) (peer_of id (saved_facts s)) e

pub confirms-first : TheMatchingSideConfirmsFirst
confirms-first s t id table none e =
    let (peer, saved) = confirmed_from I s id table e in
    let written = (no-difference I M s t id).0 none peer (front-met (saved_facts s) s.facts id peer (saved-front s) saved) in
    confirmed_some M t id written.sent

open_by : (first second : Option Difference) (ours theirs : Option TableContents) → found_by first second (undisputed ours theirs) ≡ OpenAtBoth → (second ≡ None) × (theirs ≡ None)
open_by None None ours None e = (refl, refl)
open_by None None None (Some theirs) e = absurd cc
open_by None None (Some ours) (Some theirs) e = absurd cc
open_by None (Some d) ours theirs e = absurd cc
open_by (Some d) second ours theirs e = absurd cc

unconfirmed : (ours theirs : Option TableContents) → ((table : TableContents) → ours ≡ Some table → is_some theirs ≡ true) → theirs ≡ None → ours ≡ None
unconfirmed None theirs first none = refl
unconfirmed (Some table) theirs first none = absurd (true≢false (sym (first table refl) ∙ ap is_some none))

pub open-is-open : OpenAtBothIsOpen
unfolding finding
open-is-open s t id e =
    let parts = open_by (difference M I t s id) (difference I M s t id) (confirmed I s id) (confirmed M t id) e in
    (unconfirmed (confirmed I s id) (confirmed M t id) (λ table is. confirms-first s t id table parts.0 is) parts.1, parts.1)

have_met : (s t : DeskState) → IsLegal I s → IsLegal M t → Agree s t → HaveMetFrozen (world_of s t)
have_met s t ours theirs agree = record { legal = legal; met = met }
  where
    legal : (side : Side) → IsLegal side (station_of side (world_of s t)).desk
    legal I = ours
    legal M = theirs

    met : (side : Side) → MeetsFrozen side (station_of side (world_of s t)).desk (station_of (other side) (world_of s t)).desk
    met I = agree.initiating_met
    met M = agree.matching_met

fits_both : (s t : DeskState) → FitsDesk I s.point s.facts → FitsDesk M t.point t.facts → FitsWorld (world_of s t)
fits_both s t ours theirs I = ours
fits_both s t ours theirs M = theirs

at_both : (s t : DeskState) → MeetsAfter s t → ConfirmsAtBoth (world_of s t)
at_both s t after =
    λ id table e.
    let (peer, saved) = confirmed_from I s id table e in
    confirmed_some M t id (after id peer (front-met (saved_facts s) s.facts id peer (saved-front s) saved))

pub agreeing-confirm : AgreeingDesksConfirmOneQuantity
agreeing-confirm s t ours theirs fits fit agree =
    let lower : ConfirmsTheLower (world_of s t) = confirms-lower (world_of s t) (have_met s t ours theirs agree) (fits_both s t fits fit) in
    record {
      lower = lower;
      both = at_both s t agree.after;
      alike =
          λ id a b here there pair direction hour.
          (lower I id a here).reads pair direction hour ∙ sym ((lower M id b there).reads pair direction hour);
    }

-- ---- worlds

twice : (s : DeskState) → saved_facts (started_again s s.saved) ≡ saved_facts s
twice s = take-take s.saved s.saved s.facts (omega arith)

restarted_met : (side : Side) (s t : DeskState) → MeetsFrozen side s t → MeetsFrozen side (started_again s s.saved) (started_again t t.saved)
restarted_met side s t met =
    λ id table there.
    let is = met id table (front-met (saved_facts s) s.facts id table (saved-front s) there) in (
      subst (λ (facts : List Fact). is_closed id facts ≡ true) (sym (twice t)) is.0,
      is.1 ∙ front-frozen (other side) (saved_facts t) t.facts id (saved-front t) is.0,
    )

restarted_after : (s t : DeskState) → MeetsAfter s t → MeetsAfter (started_again s s.saved) (started_again t t.saved)
restarted_after s t after =
    λ id table there.
    subst (λ (facts : List Fact). is_some (peer_of id facts) ≡ true) (sym (twice t)) (after id table (front-met (saved_facts s) s.facts id table (saved-front s) there))

pub worlds-agree : WorldsAgree
worlds-agree w sound =
    let s = w.initiating.desk in
    let t = w.matching.desk in (
      record { initiating_met = sound.met I; matching_met = sound.met M; after = sound.after },
      record {
        initiating_met = restarted_met I s t (sound.met I);
        matching_met = restarted_met M t s (sound.met M);
        after = restarted_after s t sound.after;
      },
    )

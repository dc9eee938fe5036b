-- A place is told where a side met another table than the one that its peer wrote.
use Rattle.std.proofs.Common.{◌≡◌, ◌≢◌, ◌-◌, ℕ, List, take, Bool, true, false, cond, Option, Some, None, is_some, refl, sym, ap, ◌∙◌, subst, arith, true≢false}
use Rattle.gi_pairs.specs.Table.{HasShapeOf, TableContents, table_eq}
use Rattle.gi_pairs.specs.declared.cycle_id.CycleId.{CycleId}
use Rattle.gi_pairs.specs.declared.side.Side.{Side}
use Rattle.gi_processing.specs.Processing.{processed}
use Rattle.gi_facts.specs.declared.fact.Fact.{Fact}
use Rattle.gi_facts.specs.declared.fact.Fact.TheVariants.{Met}
use Rattle.gi_facts.proofs.SameLemmas.{tables}
use Rattle.gi_desk.specs.History.{frozen_table, is_meeting, number_of, peer_of}
use Rattle.gi_desk.specs.LetOut.{IsFact}
use Rattle.gi_desk.specs.Machine.{DeskState, would_record}
use Rattle.gi_desk.proofs.CycleLaws.{recorded-meeting}
use Rattle.gi_desk.proofs.Legality.{legal-at}
use Rattle.gi_desk.proofs.LettingOut.{fact_meets}
use Rattle.gi_world.specs.Agreement.{IsLegal}
use Rattle.gi_audit.specs.Finding.{against, against_by, closing_within, difference, difference_of, difference_with}
use Rattle.gi_audit.specs.Laws.{AnotherTableHasAPlace}
use Rattle.gi_audit.specs.Place.{place_between, place_in_tables}
use Rattle.gi_audit.specs.Sent.{has_sent, sent_table}
use Rattle.gi_audit.specs.declared.difference.Against.{Against}
use Rattle.gi_audit.specs.declared.difference.Against.TheVariants.{Closed}
use Rattle.gi_audit.specs.declared.difference.Difference.{Difference}
use Rattle.gi_audit.proofs.FirstPlaces.{differing-have-a-place}
use Rattle.gi_audit.proofs.Places.{first_fact, meeting_is, met_any}

-- ---- what a side met is for the hours of the cycle

same-hours : (side other : Side) (facts others : List Fact) (id : CycleId) → HasShapeOf (frozen_table side facts id) (frozen_table other others id)
unfolding frozen_table processed
same-hours side other facts others id = record { first = refl; last = refl }

recorded : (side : Side) (s : DeskState) (n : ℕ) (fact : Fact) → IsLegal side s → IsFact s.facts n fact → would_record side s.point (take (n - 1) s.facts) fact ≡ true
recorded side s n fact legal is =
    let from = is.0 in
    let to = is.1 in
    legal-at side s.point s.facts (n - 1) fact legal.legal (omega (arith, from, to)) is.2

shape_at : (side other : Side) (s peer : DeskState) (id : CycleId) (met table : TableContents) (n : ℕ) (fact : Fact) → IsLegal side s → peer_of id s.facts ≡ Some met
    → fact ≡ Met id table → IsFact s.facts n fact → HasShapeOf met (frozen_table other peer.facts id)
shape_at side other s peer id met table n fact legal is are there =
    let fact_there : IsFact s.facts n (Met id table) = subst (IsFact s.facts n) are there in
    let again = (fact_meets side s.point s.facts n id table legal.legal fact_there).1 in
    let same : table ≡ met = cc in
    let hours = (recorded-meeting side s.point (take (n - 1) s.facts) id table (recorded side s n (Met id table) legal fact_there)).same_hours in
    let others = same-hours side other (take (n - 1) s.facts) peer.facts id in
    record {
      first = ap (λ (t : TableContents). t.first) (sym same) ∙ sym hours.first ∙ others.first;
      last = ap (λ (t : TableContents). t.last) (sym same) ∙ sym hours.last ∙ others.last;
    }

met_shape : (side other : Side) (s peer : DeskState) (id : CycleId) (met : TableContents) → IsLegal side s → peer_of id s.facts ≡ Some met
    → HasShapeOf met (frozen_table other peer.facts id)
met_shape side other s peer id met legal is =
    let first = first_fact (is_meeting id) s.facts (sym (met_any id s.facts) ∙ ap is_some is) in
    let what = meeting_is id first.fact first.passes in
    shape_at side other s peer id met what.0 (number_of (is_meeting id) s.facts) first.fact legal is what.1 first.at

-- ---- the place

same_against : (side : Side) (n closing : ℕ) (what : Option Against) (found : Difference) → difference_with side n what ≡ Some found → found.against ≡ Closed closing → what ≡ Some (Closed closing)
same_against side n closing None found e is = absurd cc
same_against side n closing (Some what) found e is =
    let same : record { side = side; met = n; against = what } ≡ found = cc in
    ap Some (ap (λ (d : Difference). d.against) same ∙ is)

another : (met sent : TableContents) (b : Bool) (closed closing : ℕ) → table_eq met sent ≡ b → cond b None (Some (Closed closed)) ≡ Some (Closed closing) → met ≢ sent
another met sent true closed closing is e = absurd cc
another met sent false closed closing is e = λ same. true≢false (sym ((tables met sent).1 same) ∙ is)

placed_by : (met : TableContents) (closed : Option ℕ) (sent : Option TableContents) (closing : ℕ) → ((table : TableContents) → sent ≡ Some table → HasShapeOf met table)
    → against_by met closed sent ≡ Some (Closed closing) → is_some (place_in_tables (Some met) sent) ≡ true
placed_by met None sent closing shape e = absurd cc
placed_by met (Some closed) None closing shape e = absurd cc
placed_by met (Some closed) (Some sent) closing shape e =
    let place = differing-have-a-place met sent (shape sent refl) (another met sent (table_eq met sent) closed closing refl e) in ap is_some place.1

written : (frozen table : TableContents) (sent : Bool) → cond sent (Some frozen) None ≡ Some table → frozen ≡ table
written frozen table true e = cc
written frozen table false e = absurd cc

sent_shape : (side other : Side) (s peer : DeskState) (id : CycleId) (met table : TableContents) → IsLegal side s → peer_of id s.facts ≡ Some met → sent_table other peer id ≡ Some table
    → HasShapeOf met table
unfolding sent_table
sent_shape side other s peer id met table legal is sent =
    subst (HasShapeOf met) (written (frozen_table other peer.facts id) table (has_sent other peer id) sent) (met_shape side other s peer id met legal is)

told_by : (side other : Side) (s peer : DeskState) (id : CycleId) (found : Difference) (closing : ℕ) (met : Option TableContents) → IsLegal side s → peer_of id s.facts ≡ met
    → difference_of side other s peer id met ≡ Some found → found.against ≡ Closed closing → is_some (place_in_tables met (sent_table other peer id)) ≡ true
told_by side other s peer id found closing None legal is e closes = absurd cc
told_by side other s peer id found closing (Some met) legal is e closes =
    placed_by met (closing_within peer id) (sent_table other peer id) closing (λ table sent. sent_shape side other s peer id met table legal is sent)
    (same_against side (number_of (is_meeting id) s.facts) closing (against other peer id met) found e closes)

pub another-has-a-place : AnotherTableHasAPlace
unfolding difference place_between
another-has-a-place side other s peer id found closing legal e closes = told_by side other s peer id found closing (peer_of id s.facts) legal refl e closes

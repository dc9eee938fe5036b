-- Where nothing is found to differ.
use Rattle.std.proofs.Common.{◌≡◌, ◌↔◌, ℕ, Bool, true, false, cond, Option, Some, None, refl, ap, subst, true≢false}
use Rattle.gi_pairs.specs.Table.{TableContents, table_eq}
use Rattle.gi_pairs.specs.declared.cycle_id.CycleId.{CycleId}
use Rattle.gi_pairs.specs.declared.side.Side.{Side}
use Rattle.gi_pairs.specs.declared.side.Side.TheVariants.{I, M}
use Rattle.gi_facts.proofs.SameLemmas.{tables}
use Rattle.gi_desk.specs.History.{frozen_table, is_closed, is_closing, is_meeting, number_of, peer_of}
use Rattle.gi_desk.specs.Machine.{DeskState}
use Rattle.gi_desk.specs.Queries.{confirmed}
use Rattle.gi_world.specs.Agreement.{saved_facts}
use Rattle.gi_audit.specs.Finding.{against, against_by, difference, difference_of, difference_with, differs, finding, found_by, is_difference, undisputed}
use Rattle.gi_audit.specs.Sent.{has_sent, sent_table}
use Rattle.gi_audit.specs.declared.difference.Against.{Against}
use Rattle.gi_audit.specs.declared.difference.Against.TheVariants.{Closed}
use Rattle.gi_audit.specs.declared.difference.Difference.{Difference}
use Rattle.gi_audit.specs.declared.finding.Finding.{Finding}

-- ---- one table that was met

-- the peer has closed the cycle, and has written this table
pub record IsWritten (side : Side) (s : DeskState) (id : CycleId) (met : TableContents) : Type 0 where
  pub closed : is_closed id (saved_facts s) ≡ true
  pub sent : has_sent side s id ≡ true
  pub same : met ≡ frozen_table side s.facts id

written_by : (met frozen : TableContents) (n : ℕ) (closed sent : Bool) → against_by met (cond closed (Some n) None) (cond sent (Some frozen) None) ≡ None
    → (closed ≡ true) × (sent ≡ true) × (met ≡ frozen)
written_by met frozen n false sent e = absurd cc
written_by met frozen n true false e = absurd cc
written_by met frozen n true true e = (refl, refl, (tables met frozen).0 (same (table_eq met frozen) e))
  where
    same : (b : Bool) → cond b None (Some (Closed n)) ≡ None → b ≡ true
    same true e = refl
    same false e = absurd cc

by_written : (met frozen : TableContents) (n : ℕ) (closed sent : Bool) → closed ≡ true → sent ≡ true → met ≡ frozen
    → against_by met (cond closed (Some n) None) (cond sent (Some frozen) None) ≡ None
by_written met frozen n closed sent closes sends same = rw (closes, sends, (tables met frozen).1 same) refl

pub nothing-against : (side : Side) (s : DeskState) (id : CycleId) (met : TableContents) → (against side s id met ≡ None) ↔ IsWritten side s id met
unfolding sent_table
nothing-against side s id met =
    let frozen = frozen_table side s.facts id in
    let n = number_of (is_closing id) s.facts in (
      λ e. let is = written_by met frozen n (is_closed id (saved_facts s)) (has_sent side s id) e in record { closed = is.0; sent = is.1; same = is.2 },
      λ is. by_written met frozen n (is_closed id (saved_facts s)) (has_sent side s id) is.closed is.sent is.same,
    )

-- ---- a cycle

-- each table that a side met of the cycle its peer has written
abbrev pub MeetsWritten : Side → DeskState → DeskState → CycleId → Type 0
MeetsWritten other s peer id = (table : TableContents) → peer_of id s.facts ≡ Some table → IsWritten other peer id table

none_with : (side : Side) (n : ℕ) (what : Option Against) → difference_with side n what ≡ None → what ≡ None
none_with side n None e = refl
none_with side n (Some what) e = absurd cc

same_from : (side other : Side) (s peer : DeskState) (id : CycleId) (found : Option TableContents) → difference_of side other s peer id found ≡ None
    → (table : TableContents) → found ≡ Some table → IsWritten other peer id table
same_from side other s peer id None e table is = absurd cc
same_from side other s peer id (Some met) e table is =
    let none = none_with side (number_of (is_meeting id) s.facts) (against other peer id met) e in
    let same : met ≡ table = cc in
    subst (IsWritten other peer id) same ((nothing-against other peer id met).0 none)

from_same : (side other : Side) (s peer : DeskState) (id : CycleId) (found : Option TableContents) → ((table : TableContents) → found ≡ Some table → IsWritten other peer id table)
    → difference_of side other s peer id found ≡ None
from_same side other s peer id None written = refl
from_same side other s peer id (Some met) written =
    ap (difference_with side (number_of (is_meeting id) s.facts)) ((nothing-against other peer id met).1 (written met refl))

pub no-difference : (side other : Side) (s peer : DeskState) (id : CycleId) → (difference side other s peer id ≡ None) ↔ MeetsWritten other s peer id
unfolding difference
no-difference side other s peer id =
    let found = peer_of id s.facts in (λ e. same_from side other s peer id found e, λ written. from_same side other s peer id found written)

undisputed_is : (ours theirs : Option TableContents) → is_difference (undisputed ours theirs) ≡ false
undisputed_is None (Some theirs) = refl
undisputed_is None None = refl
undisputed_is (Some ours) None = refl
undisputed_is (Some ours) (Some theirs) = refl

none_of_both : (first second : Option Difference) (other : Finding) → is_difference (found_by first second other) ≡ false → (first ≡ None) × (second ≡ None)
none_of_both None None other e = (refl, refl)
none_of_both None (Some d) other e = absurd (true≢false e)
none_of_both (Some d) second other e = absurd (true≢false e)

of_none : (first second : Option Difference) (other : Finding) → first ≡ None → second ≡ None → is_difference other ≡ false → is_difference (found_by first second other) ≡ false
of_none None None other first second is = is
of_none None (Some d) other first second is = absurd cc
of_none (Some d) second other first none is = absurd cc

pub record AgreeAt (initiating matching : DeskState) (id : CycleId) : Type 0 where
  pub matching_met : MeetsWritten I matching initiating id
  pub initiating_met : MeetsWritten M initiating matching id

pub agrees-at : (initiating matching : DeskState) (id : CycleId) → (differs initiating matching id ≡ false) ↔ AgreeAt initiating matching id
unfolding differs finding
agrees-at s t id =
    let first = difference M I t s id in
    let second = difference I M s t id in
    let other = undisputed (confirmed I s id) (confirmed M t id) in (
      λ e.
          let none = none_of_both first second other e in
          record { matching_met = (no-difference M I t s id).0 none.0; initiating_met = (no-difference I M s t id).0 none.1 },
      λ agree.
          of_none first second other ((no-difference M I t s id).1 agree.matching_met) ((no-difference I M s t id).1 agree.initiating_met)
          (undisputed_is (confirmed I s id) (confirmed M t id)),
    )

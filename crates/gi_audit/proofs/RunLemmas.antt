-- What holds of the world after each step of a run.
use Rattle.std.proofs.Common.{◌≡◌, ◌<◌, ◌≤◌, ◌+◌, inl, inr, ℕ, List, [], ◌∷◌, ◌++◌, length, take, get_or, ◌↔◌, Bool, false, cond, nat_lt, le-ltb, Result, Ok, Err, refl, sym, ap, ◌∙◌, subst, arith, true≢false}
use Rattle.gi_pairs.specs.declared.side.Side.{Side}
use Rattle.gi_pairs.specs.declared.side.Side.TheVariants.{I, M}
use Rattle.gi_desk.specs.Machine.{DeskState}
use Rattle.gi_desk.specs.Writable.{FitsDesk}
use Rattle.gi_world.specs.Agreement.{FitsWorld, IsSound}
use Rattle.gi_world.specs.Runs.{run}
use Rattle.gi_world.specs.World.{IsStep, WorldState, after, after_if, after_restart, station_of, with_station}
use Rattle.gi_world.specs.declared.step.Step.{Step}
use Rattle.gi_world.specs.declared.step.Step.TheVariants.{Restart}
use Rattle.gi_world.specs.declared.world_fault.WorldFault.{WorldFault}
use Rattle.gi_world.specs.declared.world_fault.WorldFault.TheVariants.{OutOfMemory, KeepsTooFew, KeepsTooMany}
use Rattle.gi_world.specs.declared.world_reply.WorldReply.{WorldReply}
use Rattle.gi_world.specs.declared.world_reply.WorldReply.TheVariants.{Restarted}
use Rattle.gi_desk.specs.Machine.{started_again}
use Rattle.gi_desk.proofs.HistoryLaws.{one_more}
use Rattle.std.specs.Prelude.{IsTrue}
use Rattle.gi_world.proofs.DeliveredPackets.{delivered-order, delivered-response}
use Rattle.gi_world.proofs.KeptParts.{few-sound, kept-sound}
use Rattle.gi_world.proofs.Meetings.{after-sound, met-sound}
use Rattle.gi_audit.specs.LetOut.{HaveLetOut}
use Rattle.gi_world.proofs.SentPackets.{legal-sound, point-sound, sent-sound, told-sound}

pub step_sound : (w : WorldState) (step : Step) → IsSound w → FitsWorld w → IsSound (after w step)
step_sound w step sound fits = record {
  point = point-sound w step sound;
  legal = legal-sound w step sound;
  sent = sent-sound w step sound;
  told = told-sound w step sound;
  met = met-sound delivered-order delivered-response w step sound fits;
  after = after-sound delivered-order delivered-response w step sound fits;
  few = few-sound w step sound;
  kept = kept-sound delivered-order delivered-response w step sound fits;
}

pub fits_from : (w : WorldState) (s t : DeskState) → s ≡ w.initiating.desk → t ≡ w.matching.desk → FitsDesk I s.point s.facts → FitsDesk M t.point t.facts → FitsWorld w
fits_from w s t ours theirs fits fit I = subst (λ (d : DeskState). FitsDesk I d.point d.facts) ours fits
fits_from w s t ours theirs fits fit M = subst (λ (d : DeskState). FitsDesk M d.point d.facts) theirs fit

pub made : (old new : WorldState) (step : Step) (r : Result WorldReply WorldFault) (short : Bool) → IsStep old step r new → (IsTrue short ↔ (r ≡ Err OutOfMemory)) → short ≡ false
    → new ≡ after old step
made old new step r short (inl is) told not_short = is.1
made old new step r short (inr is) told not_short = absurd (true≢false (sym (told.1 is.0) ∙ not_short))

pub run_last : (w : WorldState) (steps : List Step) (step : Step) → run w (steps ++ step ∷ []) ≡ after (run w steps) step
run_last w [] step = refl
run_last w (first ∷ steps) step = run_last (after w first) steps step

pub runs_more : (start old new : WorldState) (steps : List Step) (i : ℕ) (step : Step) → i < length steps → step ≡ get_or steps i step → old ≡ run start (take i steps)
    → new ≡ after old step → new ≡ run start (take (i + 1) steps)
runs_more start old new steps i step below is so_far next =
    next ∙ ap (λ (w : WorldState). after w step) so_far ∙ sym (run_last start (take i steps) step) ∙ ap (run start) (sym (one_more steps i step below is))

pub made_sound : (old new : WorldState) (step : Step) → IsSound old → FitsWorld old → new ≡ after old step → IsSound new
made_sound old new step sound fits is = subst IsSound (sym is) (step_sound old step sound fits)

-- a restart that keeps what is saved is not refused
kept_by : (w : WorldState) (side : Side) (saved len : ℕ) (few many : Bool) → few ≡ false → many ≡ false
    → after_if w (with_station side (after_restart (station_of side w) saved) w) (cond few (Err (KeepsTooFew saved)) (cond many (Err (KeepsTooMany len)) (Ok (Restarted saved))))
    ≡ with_station side (after_restart (station_of side w) saved) w
kept_by w side saved len few many not_few not_many = rw (not_few, not_many) refl

pub restart_is : (w : WorldState) (side : Side) → (station_of side w).desk.saved ≤ length (station_of side w).desk.facts
    → after w (Restart side (station_of side w).desk.saved) ≡ with_station side (after_restart (station_of side w) (station_of side w).desk.saved) w
unfolding after
restart_is w side within =
    let s = (station_of side w).desk in
    kept_by w side s.saved (length s.facts) (nat_lt s.saved s.saved) (nat_lt (length s.facts) s.saved) (le-ltb s.saved s.saved (omega arith)) (le-ltb (length s.facts) s.saved within)

-- ---- the desks of both restarts

restarted_I : (w : WorldState) (saved : ℕ) → (with_station I (after_restart (station_of I w) saved) w).initiating.desk ≡ started_again w.initiating.desk saved
unfolding after_restart
restarted_I w saved = refl

restarted_M : (w : WorldState) (saved : ℕ) → (with_station M (after_restart (station_of M w) saved) w).matching.desk ≡ started_again w.matching.desk saved
unfolding after_restart
restarted_M w saved = refl

-- a restart lets nothing out
restart_out : (w : WorldState) (at side : Side) (saved : ℕ) → (station_of side (with_station at (after_restart (station_of at w) saved) w)).sent ≡ (station_of side w).sent
unfolding after_restart
restart_out w I I saved = refl
restart_out w I M saved = refl
restart_out w M I saved = refl
restart_out w M M saved = refl

restart_told : (w : WorldState) (at side : Side) (saved : ℕ) → (station_of side (with_station at (after_restart (station_of at w) saved) w)).told ≡ (station_of side w).told
unfolding after_restart
restart_told w I I saved = refl
restart_told w I M saved = refl
restart_told w M I saved = refl
restart_told w M M saved = refl

pub restart_lets_nothing_out : (old new : WorldState) (at : Side) (saved : ℕ) → new ≡ with_station at (after_restart (station_of at old) saved) old → HaveLetOut old new
restart_lets_nothing_out old new at saved is = record {
  sent = λ side. ap (λ (w : WorldState). (station_of side w).sent) is ∙ restart_out old at side saved;
  told = λ side. ap (λ (w : WorldState). (station_of side w).told) is ∙ restart_told old at side saved;
}

pub out_of_both : (old between new : WorldState) → HaveLetOut old between → HaveLetOut between new → HaveLetOut old new
out_of_both old between new first second =
    record { sent = λ side. second.sent side ∙ first.sent side; told = λ side. second.told side ∙ first.told side }

-- what restarts of both sides leave
pub record AreBothAgain (old new : WorldState) : Type 0 where
  pub initiating : new.initiating.desk ≡ started_again old.initiating.desk old.initiating.desk.saved
  pub matching : new.matching.desk ≡ started_again old.matching.desk old.matching.desk.saved

pub both_again : (old between new : WorldState) → between ≡ with_station I (after_restart (station_of I old) (station_of I old).desk.saved) old
    → new ≡ with_station M (after_restart (station_of M between) (station_of M between).desk.saved) between → AreBothAgain old new
both_again old between new first second =
    let ours : between.initiating.desk ≡ started_again old.initiating.desk old.initiating.desk.saved =
    ap (λ (w : WorldState). w.initiating.desk) first ∙ restarted_I old old.initiating.desk.saved in
    let theirs : between.matching.desk ≡ old.matching.desk = ap (λ (w : WorldState). w.matching.desk) first in
    record {
      initiating = ap (λ (w : WorldState). w.initiating.desk) second ∙ ours;
      matching =
          ap (λ (w : WorldState). w.matching.desk) second ∙ restarted_M between between.matching.desk.saved
          ∙ ap (λ (s : DeskState). started_again s s.saved) theirs;
    }

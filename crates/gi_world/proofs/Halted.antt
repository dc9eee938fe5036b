-- A halted desk answers every call alike, and none that wants memory.
use Rattle.std.proofs.Common.{◌≡◌, inr, ℕ, Bool, true, false, not, ◌&&◌, ◌||◌, is_some, Some, Result, Err, refl, sym, ap, ◌∙◌}
use Rattle.std.specs.Prelude.{IsTrue}
use Rattle.std.proofs.lemmas.Bool.{both_ways}
use Rattle.gi_pairs.specs.declared.side.Side.{Side}
use Rattle.gi_desk.specs.Machine.{DeskState, after, answer_of, grows, learns_with_memory, may_want, may_want_to_prepare, next_of, out_of, outcome, reply, some_leave}
use Rattle.gi_desk.specs.declared.call.Call.{Call}
use Rattle.gi_desk.specs.declared.outcome.Outcome.{Outcome}
use Rattle.gi_desk.specs.declared.outcome.Outcome.TheVariants.{Refuses}
use Rattle.gi_desk.specs.declared.refusal.Refusal.TheVariants as refusals
use Rattle.gi_desk.specs.declared.packet.Packet.{Packet}
use Rattle.gi_desk.specs.declared.reply.Reply.{Reply}
use Rattle.gi_world.specs.World.{IsStep, StationState, WorldState, after_call, delivery, may_want as step_may_want, sent_with, station_of, told_with}
use Rattle.gi_world.specs.declared.step.Step.TheVariants.{Deliver}
use Rattle.gi_world.specs.declared.world_fault.WorldFault.{WorldFault}
use Rattle.gi_world.specs.declared.world_fault.WorldFault.TheVariants.{OutOfMemory}
use Rattle.gi_world.specs.declared.world_reply.WorldReply.{WorldReply}

refuses : (side : Side) (s : DeskState) (call : Call) → s.halted ≡ true → outcome side s call ≡ Refuses refusals.Halted
unfolding outcome
refuses side s call halted = rw halted refl

alike : (side : Side) (s : DeskState) (a b : Call) → s.halted ≡ true → outcome side s a ≡ outcome side s b
alike side s a b halted = refuses side s a halted ∙ sym (refuses side s b halted)

pub replies-alike : (side : Side) (s : DeskState) (a b : Call) → s.halted ≡ true → reply side s a ≡ reply side s b
unfolding reply
replies-alike side s a b halted =
    let same = alike side s a b halted in
    λ t. reply_by (same t)
  where
    reply_by : Outcome → Reply
    reply_by o = record { answer = answer_of s o; out = out_of side s o }

pub leads-alike : (side : Side) (station : StationState) (a b : Call) → station.desk.halted ≡ true → after_call side station a ≡ after_call side station b
unfolding after_call after
leads-alike side station a b halted =
    let next = ap (next_of station.desk) (alike side station.desk a b halted) in
    let said = replies-alike side station.desk a b halted in
    λ t. record { desk = next t; sent = sent_with station.sent (said t); told = told_with station.told (said t) }

running_by : (halted wants more : Bool) → (halted ≡ true → more ≡ false) → IsTrue ((not halted && wants) || more) → halted ≡ false
running_by true wants more none is = absurd (both_ways more (none refl) is)
running_by false wants more none is = refl

pub running : (side : Side) (s : DeskState) (call : Call) → IsTrue (may_want side s call) → s.halted ≡ false
unfolding may_want may_want_to_prepare
running side s call is =
    running_by s.halted (learns_with_memory call || some_leave (out_of side s (outcome side s call))) (grows (outcome side s call)) (λ halted. ap grows (refuses side s call halted)) is

-- so a delivery to a desk that is not may want memory
pub delivery-short : (w : WorldState) (side : Side) (n : ℕ) (packet : Packet) (r : Result WorldReply WorldFault) (new : WorldState) → delivery w side n ≡ Some packet
    → (station_of side w).desk.halted ≡ false → r ≡ Err OutOfMemory → new ≡ w → IsStep w (Deliver side n) r new
unfolding step_may_want
delivery-short w side n packet r new there is short same =
    let wants : (is_some (delivery w side n) && not (station_of side w).desk.halted) ≡ true = rw (there, is) refl in inr (short, same, wants)

-- What the desks hold is what the steps and their answers tell.
use Rattle.std.proofs.Common.{◌≡◌, ℕ, List, [], ◌∷◌, Bool, true, false, cond, nat_lt, length, Option, Some, None, Ok, Err, refl, sym, ap, ◌∙◌}
use Rattle.gi_pairs.specs.declared.side.Side.{Side}
use Rattle.gi_pairs.specs.declared.side.Side.TheVariants.{I, M}
use Rattle.gi_desk.specs.Machine.{DeskState, after as desk_after, answer_of, next_of, outcome as desk_outcome, reply}
use Rattle.gi_desk.specs.declared.call.Call.{Call}
use Rattle.gi_desk.specs.declared.call.Call.TheVariants as calls
use Rattle.gi_desk.specs.declared.outcome.Outcome.{Outcome}
use Rattle.gi_desk.specs.declared.outcome.Outcome.TheVariants.{Records, RepeatsNomination, RepeatsMeeting, RepeatsPart, Keeps, Saves, Resends, Stops, Refuses}
use Rattle.gi_desk.specs.declared.packet.Packet.{Packet}
use Rattle.gi_world.specs.Histories.{Histories, after_packet, after_replied, after_restarted, after_step, after_steps, fact_named_by, facts_with, held, held_by, kept_with, part_named_by, saved_with, unless_refused, with_fact, with_part, with_reply, without_fact}
use Rattle.gi_world.specs.Runs.{answers, run}
use Rattle.gi_world.specs.World.{StationState, WorldState, after, after_call, after_delivery, after_if, after_restart, called, delivered, delivery, is_delivery, outcome, station_of, with_station}
use Rattle.gi_world.specs.declared.step.Step.{Step}
use Rattle.gi_world.specs.declared.step.Step.TheVariants.{Local, Deliver, Restart}
use Rattle.gi_world.specs.declared.world_fault.WorldFault.TheVariants.{NotLocal, KeepsTooFew, KeepsTooMany}
use Rattle.gi_world.specs.declared.world_reply.WorldReply.TheVariants.{Restarted}
use Rattle.gi_world.proofs.Recorded.{Names, records-named}

abbrev IsNamed : DeskState → Call → Outcome → Type 0
IsNamed s call o = Names (fact_named_by s.kept call) (part_named_by call) s.saved o

facts_noted : (s : DeskState) (call : Call) (o : Outcome) → IsNamed s call o → facts_with s.facts s.kept call (answer_of s o) ≡ (next_of s o).facts
facts_noted s call (Records fact) names = ap (with_fact s.facts) (names.0 fact refl)
facts_noted s call (RepeatsNomination n) names = refl
facts_noted s call (RepeatsMeeting n) names = refl
facts_noted s call (RepeatsPart n) names = refl
facts_noted s call (Keeps id part) names = refl
facts_noted s call (Saves n) names = refl
facts_noted s call (Resends id) names = refl
facts_noted s call Stops names = refl
facts_noted s call (Refuses refusal) names = refl

saved_noted : (s : DeskState) (call : Call) (o : Outcome) → IsNamed s call o → saved_with s.saved (answer_of s o) ≡ (next_of s o).saved
saved_noted s call (Records fact) names = refl
saved_noted s call (RepeatsNomination n) names = refl
saved_noted s call (RepeatsMeeting n) names = refl
saved_noted s call (RepeatsPart n) names = refl
saved_noted s call (Keeps id part) names = refl
saved_noted s call (Saves n) names = sym (names.1 n refl)
saved_noted s call (Resends id) names = refl
saved_noted s call Stops names = refl
saved_noted s call (Refuses refusal) names = refl

kept_noted : (s : DeskState) (call : Call) (o : Outcome) → IsNamed s call o → kept_with s.kept call (answer_of s o) ≡ (next_of s o).kept
kept_noted s call (Records fact) names = ap (without_fact s.kept) (names.0 fact refl)
kept_noted s call (RepeatsNomination n) names = refl
kept_noted s call (RepeatsMeeting n) names = refl
kept_noted s call (RepeatsPart n) names = refl
kept_noted s call (Keeps id part) names = ap (with_part s.kept) (names.2 id part refl)
kept_noted s call (Saves n) names = refl
kept_noted s call (Resends id) names = refl
kept_noted s call Stops names = refl
kept_noted s call (Refuses refusal) names = refl

-- of a call
called_held : (side : Side) (station : StationState) (call : Call)
    → with_reply (held_by station) call (reply side station.desk call) ≡ held_by (after_call side station call)
unfolding with_reply after_call desk_after reply
called_held side station call =
    let o = desk_outcome side station.desk call in
    let names = records-named side station.desk call in
    let facts = facts_noted station.desk call o names in
    let saved = saved_noted station.desk call o names in
    let kept = kept_noted station.desk call o names in
    λ t. record { facts = facts t; saved = saved t; kept = kept t; sent = (after_call side station call).sent; told = (after_call side station call).told }

local_held : (side : Side) (b : Bool) (w : WorldState) (call : Call)
    → unless_refused (held w) (after_replied side (held w) call) (cond b (Err NotLocal) (called side (station_of side w) call))
    ≡ held (cond b w (with_station side (after_call side (station_of side w) call) w))
local_held side true w call = refl
local_held I false w call = λ t. record { initiating = called_held I w.initiating call t; matching = held_by w.matching }
local_held M false w call = λ t. record { initiating = held_by w.initiating; matching = called_held M w.matching call t }

delivery_held : (side : Side) (w : WorldState) (packet : Option Packet)
    → unless_refused (held w) (after_packet side (held w) packet) (delivered side (station_of side w) packet) ≡ held (after_delivery w side packet)
delivery_held side w None = refl
delivery_held side w (Some packet) = local_held side false w (calls.Deliver packet.body)

restart_held : (side : Side) (few many : Bool) (w : WorldState) (keep saved len : ℕ)
    → let got = cond few (Err (KeepsTooFew saved)) (cond many (Err (KeepsTooMany len)) (Ok (Restarted keep))) in
    unless_refused (held w) (after_restarted side (held w)) got ≡ held (after_if w (with_station side (after_restart (station_of side w) keep) w) got)
unfolding after_restart
restart_held side true many w keep saved len = refl
restart_held side false true w keep saved len = refl
restart_held I false false w keep saved len = refl
restart_held M false false w keep saved len = refl

step_held : (w : WorldState) (step : Step) → after_step (held w) step (outcome w step) ≡ held (after w step)
unfolding after_step outcome after
step_held w (Local side call) = local_held side (is_delivery call) w call
step_held w (Deliver I n) = delivery_held I w (delivery w I n)
step_held w (Deliver M n) = delivery_held M w (delivery w M n)
step_held w (Restart side keep) =
    let s = (station_of side w).desk in restart_held side (nat_lt keep s.saved) (nat_lt (length s.facts) keep) w keep s.saved (length s.facts)

pub steps-held : (w : WorldState) (steps : List Step) → after_steps (held w) steps (answers w steps) ≡ held (run w steps)
steps-held w [] = refl
steps-held w (step ∷ steps) = ap (λ (both : Histories). after_steps both steps (answers (after w step) steps)) (step_held w step) ∙ steps-held (after w step) steps

-- What holds of each station stays so after a step, where calls and restarts keep it.
use Rattle.std.proofs.Common.{◌≡◌, ◌≤◌, ℕ, length, Bool, true, false, cond, nat_lt, ltb-false, Option, Some, None, Ok, Err, refl}
use Rattle.gi_pairs.specs.declared.side.Side.{Side}
use Rattle.gi_pairs.specs.declared.side.Side.TheVariants.{I, M}
use Rattle.gi_desk.specs.declared.call.Call.{Call}
use Rattle.gi_desk.specs.declared.call.Call.TheVariants as calls
use Rattle.gi_desk.specs.declared.packet.Packet.{Packet}
use Rattle.gi_world.specs.World.{StationState, WorldState, after, after_call, after_delivery, after_if, after_restart, delivery, is_delivery, station_of, with_station}
use Rattle.gi_world.specs.declared.step.Step.{Step}
use Rattle.gi_world.specs.declared.step.Step.TheVariants.{Local, Deliver, Restart}
use Rattle.gi_world.specs.declared.world_fault.WorldFault.TheVariants.{KeepsTooFew, KeepsTooMany}
use Rattle.gi_world.specs.declared.world_reply.WorldReply.TheVariants.{Restarted}

-- it holds of both stations of a world
abbrev pub HoldsOfBoth : (Side → StationState → Type 0) → WorldState → Type 0
HoldsOfBoth P w = (side : Side) → P side (station_of side w)

-- every call keeps it, and every restart that keeps what is saved
abbrev pub CallsKeep : (Side → StationState → Type 0) → Type 0
CallsKeep P = (side : Side) (station : StationState) (call : Call) → P side station → P side (after_call side station call)

abbrev pub RestartsKeep : (Side → StationState → Type 0) → Type 0
RestartsKeep P =
    (side : Side) (station : StationState) (keep : ℕ) → station.desk.saved ≤ keep → keep ≤ length station.desk.facts → P side station → P side (after_restart station keep)

module _ (P : Side → StationState → Type 0) (by_call : CallsKeep P) (by_restart : RestartsKeep P) where
  placed : (at : Side) (station : StationState) (w : WorldState) → HoldsOfBoth P w → P at station → HoldsOfBoth P (with_station at station w)
  placed I station w holds new I = new
  placed I station w holds new M = holds M
  placed M station w holds new I = holds I
  placed M station w holds new M = new

  call_keeps : (at : Side) (b : Bool) (w : WorldState) (call : Call) → HoldsOfBoth P w → HoldsOfBoth P (cond b w (with_station at (after_call at (station_of at w) call) w))
  call_keeps at true w call holds = holds
  call_keeps at false w call holds = placed at (after_call at (station_of at w) call) w holds (by_call at (station_of at w) call (holds at))

  delivery_keeps : (at : Side) (w : WorldState) (packet : Option Packet) → HoldsOfBoth P w → HoldsOfBoth P (after_delivery w at packet)
  delivery_keeps at w None holds = holds
  delivery_keeps at w (Some packet) holds = call_keeps at false w (calls.Deliver packet.body) holds

  restart_keeps : (at : Side) (few many : Bool) (w : WorldState) (keep : ℕ) → let s = (station_of at w).desk in nat_lt keep s.saved ≡ few → nat_lt (length s.facts) keep ≡ many
      → HoldsOfBoth P w
      → HoldsOfBoth P (after_if w (with_station at (after_restart (station_of at w) keep) w) (cond few (Err (KeepsTooFew s.saved)) (cond many (Err (KeepsTooMany (length s.facts))) (Ok (Restarted keep)))))
  restart_keeps at true many w keep few_is many_is holds = holds
  restart_keeps at false true w keep few_is many_is holds = holds
  restart_keeps at false false w keep few_is many_is holds =
      let s = (station_of at w).desk in
      placed at (after_restart (station_of at w) keep) w holds
      (by_restart at (station_of at w) keep (ltb-false keep s.saved few_is) (ltb-false (length s.facts) keep many_is) (holds at))

  pub after-keeps : (w : WorldState) (step : Step) → HoldsOfBoth P w → HoldsOfBoth P (after w step)
  unfolding after
  after-keeps w (Local at call) holds = call_keeps at (is_delivery call) w call holds
  after-keeps w (Deliver at n) holds = delivery_keeps at w (delivery w at n) holds
  after-keeps w (Restart at keep) holds =
      let s = (station_of at w).desk in restart_keeps at (nat_lt keep s.saved) (nat_lt (length s.facts) keep) w keep refl refl holds

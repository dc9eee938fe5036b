-- No call changes a desk's point.
use Rattle.std.proofs.Common.{◌≡◌, refl}
use Rattle.gi_pairs.specs.declared.side.Side.{Side}
use Rattle.gi_desk.specs.Machine.{DeskState, after, next_of, outcome}
use Rattle.gi_desk.specs.declared.call.Call.{Call}
use Rattle.gi_desk.specs.declared.outcome.Outcome.{Outcome}
use Rattle.gi_desk.specs.declared.outcome.Outcome.TheVariants.{Records, RepeatsNomination, RepeatsMeeting, RepeatsPart, Keeps, Saves, Resends, Stops, Refuses}

point_by : (s : DeskState) (o : Outcome) → (next_of s o).point ≡ s.point
point_by s (Records fact) = refl
point_by s (RepeatsNomination n) = refl
point_by s (RepeatsMeeting n) = refl
point_by s (RepeatsPart n) = refl
point_by s (Keeps id part) = refl
point_by s (Saves n) = refl
point_by s (Resends id) = refl
point_by s Stops = refl
point_by s (Refuses refusal) = refl

pub keeps_point : (side : Side) (s : DeskState) (call : Call) → (after side s call).point ≡ s.point
unfolding after
keeps_point side s call = point_by s (outcome side s call)

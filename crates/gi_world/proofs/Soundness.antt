-- What holds of every world that steps lead to.
use Rattle.std.proofs.Common.{All}
use Rattle.std.proofs.lemmas.List.Elements.{All-weaker}
use Rattle.gi_pairs.specs.declared.side.Side.{Side}
use Rattle.gi_pairs.specs.declared.side.Side.TheVariants.{I, M}
use Rattle.gi_world.specs.Agreement.{Carries, FitsWorld, IsOrdered, IsResponded, IsSent, IsSound}
use Rattle.gi_world.specs.World.{WorldState, after, station_of}
use Rattle.gi_world.specs.declared.step.Step.{Step}
use Rattle.gi_world.proofs.DeliveredPackets.{delivered-order, delivered-response, sent-order, sent-response}
use Rattle.gi_world.proofs.KeptParts.{few-sound, kept-sound}
use Rattle.gi_world.proofs.Meetings.{after-sound, met-sound}
use Rattle.gi_world.proofs.SentPackets.{legal-sound, point-sound, sent-sound, told-sound}

pub step-sound : (w : WorldState) (step : Step) → IsSound w → FitsWorld w → IsSound (after w step)
step-sound w step sound fits = record {
  point = point-sound w step sound;
  legal = legal-sound w step sound;
  sent = sent-sound w step sound;
  told = told-sound w step sound;
  met = met-sound delivered-order delivered-response w step sound fits;
  after = after-sound delivered-order delivered-response w step sound fits;
  few = few-sound w step sound;
  kept = kept-sound delivered-order delivered-response w step sound fits;
}

-- what each packet carries that a side sent
pub all-carry : (w : WorldState) → IsSound w → FitsWorld w → (side : Side) → All (Carries side w) (station_of side w).sent
all-carry w sound fits I =
    All-weaker (IsSent I w.initiating.desk) (IsOrdered w) (λ packet is. sent-order w packet (sound.legal I) (fits I) is) w.initiating.sent (sound.sent I)
all-carry w sound fits M =
    All-weaker (IsSent M w.matching.desk) (IsResponded w) (λ packet is. sent-response w packet (sound.legal M) (fits M) is) w.matching.sent (sound.sent M)

use Rattle.gi_messages.proofs.WritingLemmas.{round_trip}
use Rattle.gi_messages.proofs.laws.round_trip.Goals as goal

pub returns : goal.returns
returns c = round_trip

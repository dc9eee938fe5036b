use Rattle.gi_facts.proofs.WritingLemmas.{round_trip}
use Rattle.gi_facts.proofs.laws.fact_round_trip.Goals as goal

pub returns : goal.returns
returns c = round_trip

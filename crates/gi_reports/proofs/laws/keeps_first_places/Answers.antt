use Rattle.gi_reports.proofs.PlaceLemmas.{counted_keep}
use Rattle.gi_reports.proofs.laws.keeps_first_places.Goals as goal

pub returns : goal.returns
returns c = counted_keep

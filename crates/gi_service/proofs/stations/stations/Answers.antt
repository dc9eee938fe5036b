use Rattle.std.proofs.Common.{inl, inr}
use Rattle.gi_service.proofs.stations.stations.Goals as goal

pub returns-in-Err-clause-first : goal.returns-in-Err-clause-first
returns-in-Err-clause-first g c =
    inr ((c.in_ok-initiating.ensures.opened.before, c.in_ok-initiating.ensures.opened.opened), inl c.in-Err.ensures.first)

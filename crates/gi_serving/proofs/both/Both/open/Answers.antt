use Rattle.std.proofs.Common.{◌≡◌, ◌+◌}
use Rattle.gi_serving.proofs.Asked.{of_value}
use Rattle.gi_serving.proofs.both.Both.open.Goals as goal

pub invariant_of-result : goal.invariant_of-result
invariant_of-result g c = record {
  some = c.requires.some;
  few = c.requires.few;
  ours = of_value c.open-initiating.result c.in_ok-initiating.initiating (λ running. running.office.seats ≡ c.args.sessions + 1) c.in_ok-initiating.ensures.ours c.open-initiating.ensures.office;
  theirs = of_value c.open-matching.result c.in_ok-initiating.matching (λ running. running.office.seats ≡ c.args.sessions + 1) c.in_ok-initiating.ensures.theirs c.open-matching.ensures.office;
}

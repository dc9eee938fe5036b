use Rattle.std.proofs.Common.{IsPermutation, List, subst}
use Rattle.gi_pairs.specs.declared.cycle_id.CycleId.{CycleId}
use Rattle.gi_desk.specs.History.{closings}
use Rattle.gi_reports.proofs.CycleLemmas.{strictly}
use Rattle.gi_reports.proofs.cycles.closed_cycles.Goals as goal

pub returns : goal.returns
returns g c =
    let s = c.args.desk.now in
    let ids = c.sort_unstable.new.self.items in
    let same : IsPermutation (closings s.facts) ids = subst (λ (l : List CycleId). IsPermutation l ids) c.in_ok-ids.ensures c.sort_unstable.ensures.permutation in
    record {
      closed = same;
      sorted = strictly g.R.Role.SIDE s.point s.facts ids c.closes_once.ensures c.reveal_invariant.ensures.legal same c.sort_unstable.ensures.sorted;
    }

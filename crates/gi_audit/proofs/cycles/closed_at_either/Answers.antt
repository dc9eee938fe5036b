use Rattle.std.proofs.Common.{◌++◌, IsPermutation, List, subst}
use Rattle.std.proofs.lemmas.List.Filters.{dedup_is}
use Rattle.gi_pairs.specs.declared.cycle_id.CycleId.{CycleId}
use Rattle.gi_facts.specs.Same.{same_cycle}
use Rattle.gi_audit.proofs.CycleLemmas.{either-closed}
use Rattle.gi_audit.proofs.cycles.closed_at_either.Goals as goal

pub returns : goal.returns
returns c =
    let ours = c.in_ok-ids.ids.items in
    let theirs = c.in_ok-others.others.items in
    let sorted = c.sort_unstable.new.self.items in
    let moved : IsPermutation (ours ++ theirs) sorted =
    subst (λ (ids : List CycleId). IsPermutation ids sorted) c.in_ok-append.ensures.items c.sort_unstable.ensures.permutation in
    either-closed c.args.initiating.now c.args.matching.now ours theirs sorted c.dedup.new.self.items c.in_ok-ids.ensures c.in_ok-others.ensures moved c.sort_unstable.ensures.sorted
    (dedup_is same_cycle sorted c.dedup.new.self.items c.dedup.ensures.filtered)

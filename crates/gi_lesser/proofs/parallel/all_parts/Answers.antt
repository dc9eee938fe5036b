use Rattle.std.proofs.Common.{◌≡◌, ◌-◌, ◌<◌, ◌∙◌, ap, arith, length}
use Rattle.std.specs.List.{range_with_len}
use Rattle.rayon.specs.Numbers.{nat_range}
use Rattle.gi_lesser.specs.Parts.{part_of}
use Rattle.gi_lesser.proofs.Gathering.{gathered}
use Rattle.std.specs.List.Sorted.{IsStrictlySortedBy}
use Rattle.rayon.proofs.ToStd.{nat_range-All}
use Rattle.gi_pairs.specs.Key.{key_cmp}
use Rattle.gi_pairs.specs.Table.{keys_of}
use Rattle.gi_lesser.proofs.parallel.all_parts.Goals as goal

pub collect-requires-clause-ready : goal.collect-requires-clause-ready
collect-requires-clause-ready g c κs within =
    let ends = c.into_par_iter.ensures in
    let inside = nat_range-All (λ i. (i < length c.args.ours.now) × IsStrictlySortedBy key_cmp (keys_of c.args.ours.now) × IsStrictlySortedBy key_cmp (keys_of c.args.theirs.now))
    0 (length c.args.ours.now) (λ i low high. (high, c.requires.ours, c.requires.theirs)) in
    rw (c.map.ensures.base, c.map.ensures.f, c.with_min_len.ensures.base, ends.0, ends.1) (λ k d lt. (inside k d lt, λ y p. tt))

pub returns : goal.returns
returns g c =
    let ends = c.into_par_iter.ensures in
    let h = c.in_ok-collect.ensures in
    let whole : length c.args.ours.now - 0 ≡ length c.args.ours.now = omega arith in
    let chain = rw (c.map.ensures.base, c.map.ensures.f, c.with_min_len.ensures.base) at h.1 in
    let places = chain.1 ∙ (λ i. nat_range (ends.0 i) (ends.1 i)) ∙ ap (range_with_len 0) whole in
    gathered (part_of c.args.ours.now c.args.theirs.now) chain.0 (range_with_len 0 (length c.args.ours.now)) h.0 c.in_ok-collect.field-0 places chain.2 h.2

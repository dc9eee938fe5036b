use Rattle.std.proofs.Common.{arith}
use Rattle.gi_lesser.proofs.PartLaws.{edge_ordered, sorted_take}
use Rattle.gi_lesser.proofs.WalkLaws.{sorted_drop}
use Rattle.gi_lesser.proofs.parallel.part.Goals as goal

pub split_at-requires-4 : goal.split_at-requires-4
split_at-requires-4 c =
    let grows = edge_ordered c.args.ours.now c.args.theirs.now c.args.i c.requires.ours c.requires.theirs c.requires.within in
    omega (arith, grows, c.edge-from.ensures.value, c.edge-to.ensures.value, c.split_at-3.ensures.front_len)

pub lower_rows-requires-clause-ours : goal.lower_rows-requires-clause-ours
lower_rows-requires-clause-ours c =
    rw (c.split_at-2.ensures.front, c.split_at.ensures.back) (sorted_take 1 _ (sorted_drop c.args.i c.args.ours.now c.requires.ours))

pub lower_rows-requires-clause-theirs : goal.lower_rows-requires-clause-theirs
lower_rows-requires-clause-theirs c =
    rw (c.split_at-4.ensures.back, c.split_at-3.ensures.front) (sorted_drop c.edge-from.result _ (sorted_take c.edge-to.result c.args.theirs.now c.requires.theirs))

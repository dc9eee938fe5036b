use Rattle.std.proofs.Common.{inl, sym}
use Rattle.gi_parts.specs.Parts.{parts_of}
use Rattle.gi_parts.proofs.GatheringLaws.{for_itself, for_others, gathered_differs, gathered_joins, gathered_keeps}
use Rattle.gi_parts.proofs.gathering.gather_parts.Goals as goal

pub returns-then-not-go_together : goal.returns-then-not-go_together
returns-then-not-go_together c = inl (gathered_differs c.args.part (parts_of c.args.id.now c.args.kept.now) c.requires.several (sym c.if-not-go_together.ensures))

pub returns-then-is_awaiting : goal.returns-then-is_awaiting
returns-then-is_awaiting c =
    inl (gathered_keeps c.args.part (parts_of c.args.id.now c.args.kept.now) c.requires.several (sym c.if-not-go_together.ensures) (sym c.if-is_awaiting.ensures))

pub joined-gathered-requires : goal.joined-gathered-requires
joined-gathered-requires c = record {
  part = for_itself c.args.part c.requires.readable;
  kept = for_others c.args.part (parts_of c.args.id.now c.args.kept.now) (sym c.if-not-go_together.ensures) c.requires.kept;
}

pub returns-in-Ok : goal.returns-in-Ok
returns-in-Ok c =
    inl (gathered_joins c.args.part (parts_of c.args.id.now c.args.kept.now) c.in-Ok.gathered c.requires.several (sym c.if-not-go_together.ensures) (sym c.if-is_awaiting.ensures) c.in-Ok.ensures)

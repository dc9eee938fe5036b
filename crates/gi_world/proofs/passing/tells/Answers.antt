use Rattle.std.proofs.Common.{sym, ap, ◌∙◌}
use Rattle.gi_world.specs.World.{begins_with_cycle}
use Rattle.gi_world.proofs.DeskPackets.{tells_by_text}
use Rattle.gi_world.proofs.passing.tells.Goals as goal

pub returns-then-not-is_for_peer : goal.returns-then-not-is_for_peer
returns-then-not-is_for_peer c =
    c.begins_with_cycle.ensures ∙ ap begins_with_cycle c.as_slice.ensures ∙ tells_by_text c.args.packet.now (sym c.is_for_peer.ensures ∙ c.if-not-is_for_peer.true) c.requires

use Rattle.std.proofs.Common.{◌++◌, List, ap, ◌∙◌}
use Rattle.gi_desk.specs.declared.packet.Packet.{Packet}
use Rattle.gi_serving.proofs.Asked.{all_out, note_more}
use Rattle.gi_serving.proofs.running.out_since.Goals as goal

pub loop-note-preserved : goal.loop-note-preserved
loop-note-preserved c =
    note_more _ c.loop-note.note-index c.note-item.result _ _ c.loop-note-test.true c.note-item.is c.loop-note.invariant
    (c.in_ok-add_copies.ensures ∙ ap (λ (packets : List Packet). c.loop-note.packets.items ++ packets) c.as_slice.ensures)

pub returns : goal.returns
returns c = all_out c.args.notes.now c.args.sent c.min.result c.loop-note.note-index c.loop-note.packets.items c.min.ensures c.loop-note-test.false c.loop-note.invariant

use Rattle.std.proofs.Common.{rules}
use Rattle.gi_messages.proofs.WritingLemmas.{is_read_back, writable_from_fits}
use Rattle.gi_messages.proofs.written.written.Goals as goal

pub returns : goal.returns
returns c =
    let m = c.in_ok-message.message in
    is_read_back m c.args.bytes.now (c.is_text_of.ensures (search rules)) (writable_from_fits m (search rules)) c.requires

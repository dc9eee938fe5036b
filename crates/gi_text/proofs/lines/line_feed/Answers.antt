use Rattle.std.proofs.Common.{◌==◌}
use Rattle.gi_text.proofs.FirstByte.{first_byte}
use Rattle.gi_text.proofs.lines.line_feed.Goals as goal

pub returns : goal.returns
returns c = first_byte (λ byte. byte == 10) c.args.text.now c.memchr.result c.memchr.ensures

use Rattle.std.proofs.Common.{Err, ap, ◌∙◌}
use Rattle.gi_desk.proofs.Decoded.{short-readable}
use Rattle.gi_desk.proofs.desk.Desk.submitted.Goals as goal

pub returns-in-Err-OutOfMemory-clause-short : goal.returns-in-Err-OutOfMemory-clause-short
returns-in-Err-OutOfMemory-clause-short g c =
    short-readable c.args.bytes.now c.decode.result (c.in-Err-OutOfMemory.is ∙ ap Err c.in-Err-OutOfMemory.field-0-is) c.decode.ensures.too_large c.decode.ensures.not_text

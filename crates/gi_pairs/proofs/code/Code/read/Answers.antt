use Rattle.std.proofs.Common.{rules}
use Rattle.gi_pairs.proofs.CodeLaws.{kept_from}
use Rattle.gi_pairs.proofs.code.Code.read.Goals as goal

pub invariant_of-result : goal.invariant_of-result
invariant_of-result c = rw c.copy_from_slice.ensures.after (kept_from c.as_bytes-text.result.now (search rules))

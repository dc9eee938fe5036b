use Rattle.std.proofs.lemmas.Str.{IsUtf8-from_ascii}
use Rattle.gi_store.proofs.Heads.{digest_is_ascii}
use Rattle.gi_store.proofs.digest.DigestDisplay.fmt.Goals as goal

pub returns-in-Err-clause-writes : goal.returns-in-Err-clause-writes
returns-in-Err-clause-writes g c = absurd (c.in-Err.ensures.cases.0 (rw c.text.ensures (IsUtf8-from_ascii _ (digest_is_ascii _))))

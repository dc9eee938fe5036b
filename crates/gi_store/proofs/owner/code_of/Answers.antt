use Rattle.std.proofs.lemmas.Str.{IsUtf8-from_ascii}
use Rattle.gi_pairs.proofs.CodeLaws.{code-ascii}
use Rattle.gi_store.proofs.owner.code_of.Goals as goal

pub returns-in_default-clause-none : goal.returns-in_default-clause-none
returns-in_default-clause-none c none code = c.in_default.ensures.cases.0 (IsUtf8-from_ascii c.args.bytes.now (code-ascii c.args.bytes.now code))

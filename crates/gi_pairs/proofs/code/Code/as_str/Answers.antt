use Rattle.std.proofs.lemmas.Str.{IsUtf8-from_ascii}
use Rattle.gi_pairs.proofs.CodeLaws.{code-ascii, ok_from_cases}
use Rattle.gi_pairs.proofs.code.Code.as_str.Goals as goal

pub unwrap-requires : goal.unwrap-requires
unwrap-requires c =
    ok_from_cases c.from_utf8.result _ _ c.from_utf8.ensures.cases
    (λ e refused. refused.0 (IsUtf8-from_ascii c.as_bytes.result.now (code-ascii c.as_bytes.result.now c.as_bytes.ensures.code)))

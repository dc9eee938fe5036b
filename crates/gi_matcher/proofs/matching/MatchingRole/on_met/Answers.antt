use Rattle.std.proofs.Common.{IfErr, Result, Ok, Err}
use Rattle.gi_desk.proofs.PartsOfTables.{responses-some}
use Rattle.gi_matcher.proofs.matching.MatchingRole.on_met.Goals as goal

if_failed : {X E : Type 0} {P : Type 0} (r : Result X E) → P → IfErr r (λ fault. P)
if_failed (Ok x) p = tt
if_failed (Err fault) p = p

pub returns-clause-short : goal.returns-clause-short
returns-clause-short c = if_failed c.response_for.result (responses-some c.args.point c.args.cycle.now)

use Rattle.gi_audit.proofs.AgreeLaws.{confirms-first, open-is-open}
use Rattle.gi_audit.proofs.laws.the_matching_side_confirms_first.Goals as goal

pub returns-clause-first : goal.returns-clause-first
returns-clause-first c = confirms-first

pub returns-clause-open_at_both : goal.returns-clause-open_at_both
returns-clause-open_at_both c = open-is-open

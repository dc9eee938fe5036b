use Rattle.std.proofs.Common.{sym, ◌∙◌}
use Rattle.gi_script.proofs.WordLemmas.{words-some}
use Rattle.gi_script.proofs.command.body.Goals as goal

pub returns-in_default : goal.returns-in_default
returns-in_default c = λ body is. words-some body (sym is ∙ c.in_default.ensures)

use Rattle.std.proofs.Common.{sym, ◌∙◌}
use Rattle.gi_nominations.proofs.JudgingLaws.{verdict-recordable, verdict-repeat}
use Rattle.gi_nominations.proofs.book.Book.judge.Goals as goal

pub returns-clause-recordable : goal.returns-clause-recordable
returns-clause-recordable c is = verdict-recordable c.args.self.now c.args.setting.now c.args.nomint.now (sym c.verdict.ensures ∙ is)

pub returns-clause-repeats : goal.returns-clause-repeats
returns-clause-repeats c is = verdict-repeat c.args.self.now c.args.setting.now c.args.nomint.now (sym c.verdict.ensures ∙ is)

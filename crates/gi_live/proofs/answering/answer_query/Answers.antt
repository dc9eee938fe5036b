use Rattle.gi_live.proofs.Goings.{writes_answer}
use Rattle.std.proofs.Common.{subst}
use Rattle.gi_live.specs.Answering.{AsksDue}
use Rattle.gi_live.proofs.answering.answer_query.Goals as goal

pub line_answer-requires : goal.line_answer-requires
line_answer-requires g c moment asks = c.requires moment (subst (λ line. AsksDue line moment) c.as_slice.ensures asks)

pub returns-in-Ok-clause-written : goal.returns-in-Ok-clause-written
returns-in-Ok-clause-written g c =
    writes_answer g.R.Role.SIDE c.args.desk.now c.args.number c.as_slice.result.now c.args.line.now c.in-Ok.text.items c.deref.result.now _ _ c.write.result
    c.in-Ok.ensures c.as_slice.ensures c.deref.ensures.value c.write.ensures.written

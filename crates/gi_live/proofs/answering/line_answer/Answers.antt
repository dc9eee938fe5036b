use Rattle.std.proofs.Common.{inl, inr, subst}
use Rattle.std.proofs.lemmas.Result.{IfOk-weaker}
use Rattle.gi_live.specs.Answering.{AsksGiven}
use Rattle.gi_live.proofs.answering.line_answer.Goals as goal

pub query_text-requires : goal.query_text-requires
query_text-requires g c moment is =
    c.requires moment (record { within = c.if-line-gt-MOST_LINE.false; asks = subst (λ query. AsksGiven c.args.line.now query) is c.in-Some.ensures })

pub returns-in-Some : goal.returns-in-Some
returns-in-Some g c =
    IfOk-weaker c.query_text.result _ _ (λ text tells. inr (inl (record { within = c.if-line-gt-MOST_LINE.false; query = c.in-Some.query; asks = c.in-Some.ensures; tells = tells })))
    c.query_text.ensures

pub returns-in-None : goal.returns-in-None
returns-in-None g c =
    IfOk-weaker c.refused-in-None.result _ _ (λ text told. inr (inr (record { within = c.if-line-gt-MOST_LINE.false; none = c.in-None.ensures; told = told }))) c.refused-in-None.ensures

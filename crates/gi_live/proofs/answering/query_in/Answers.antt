use Rattle.gi_live.proofs.Queried.{given_is}
use Rattle.gi_live.proofs.answering.query_in.Goals as goal

pub returns : goal.returns
returns c = given_is c.args.line.now c.in_ok-text_of.field-0.now c.read_query.result c.in_ok-text_of.ensures.ended c.read_query.ensures

use Rattle.gi_moments.proofs.MomentLemmas.{not_parsed, parsed_is}
use Rattle.gi_moments.proofs.moment.date.Goals as goal

pub returns-in-Ok-parse : goal.returns-in-Ok-parse
returns-in-Ok-parse c = parsed_is c.args.text.now c.in-Ok.field-0 c.in-Ok-parse.date c.in-Ok.ensures.exact.0 c.in-Ok.ensures.exact.1 c.in-Ok-parse.ensures.value

pub returns-in-Err-parse : goal.returns-in-Err-parse
returns-in-Err-parse c date year is = not_parsed c.args.text.now c.in-Err-parse.field-0 c.in-Err-parse.ensures.value c.in-Ok.field-0 c.in-Ok.ensures.exact.1

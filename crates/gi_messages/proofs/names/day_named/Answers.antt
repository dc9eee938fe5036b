use Rattle.std.proofs.Common.{sym}
use Rattle.gi_messages.proofs.DateLemmas.{day_of-read, day_of-refused}
use Rattle.gi_messages.proofs.names.day_named.Goals as goal

pub returns-in-Ok : goal.returns-in-Ok
returns-in-Ok c = sym (day_of-read c.args.text.now c.in-Ok.day c.in-Ok.ensures.exact)

pub returns-in-Err : goal.returns-in-Err
returns-in-Err c = sym (day_of-refused c.args.text.now c.in-Err.field-0 c.in-Err.ensures.exact)

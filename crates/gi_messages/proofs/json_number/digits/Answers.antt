use Rattle.std.proofs.Common.{sym}
use Rattle.gi_messages.proofs.NumberLemmas.{number_of-parsed}
use Rattle.gi_messages.proofs.json_number.digits.Goals as goal

pub returns-in-Ok : goal.returns-in-Ok
returns-in-Ok c = number_of-parsed c.args.bytes.now c.in-Ok.n (sym c.if-begins_with.ensures.value) c.in-Ok.ensures

use Rattle.std.proofs.Common.{◌∷◌, None, Some}
use Rattle.gi_script.proofs.NameLemmas.{finds_side}
use Rattle.gi_script.proofs.TakeLemmas.{command_read}
use Rattle.gi_script.proofs.reading.side_command.Goals as goal

pub returns-in_default : goal.returns-in_default
returns-in_default c = λ x is. let are = is.are in finds_side c.args.first.now None c.in_default.ensures.value is.side (cc)

pub returns : goal.returns
returns c =
    let side = finds_side c.args.first.now (Some c.in-Ok.side) c.in-Ok.ensures.value in
    let next = c.in-Some.ensures.1 in
    let verb = c.in-Some.ensures.2 in
    command_read (c.args.first.now ∷ c.args.words) c.verb.new.self c.in-Ok.side c.in-Some.verb c.command.result (cc) c.command.ensures

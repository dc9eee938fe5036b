use Rattle.clap.specs.Words.{app_of}
use Rattle.gi_command_line.proofs.Building.{one_more}
use Rattle.gi_command_line.proofs.commands.with_pair.Goals as goal

pub returns : goal.returns
returns c app is =
    let one = one_more app_of _ _ _ _ _ c.with_arg-command.ensures c.word.ensures.rule is in
    let two = one_more app_of _ _ _ _ _ c.with_arg-command-2.ensures c.word-2.ensures.rule one in
    one_more app_of _ _ _ _ _ c.with_arg.ensures c.word-3.ensures.rule two

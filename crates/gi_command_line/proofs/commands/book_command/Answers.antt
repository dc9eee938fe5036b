use Rattle.clap.specs.Words.{app_of}
use Rattle.gi_command_line.proofs.Building.{one_more}
use Rattle.gi_command_line.proofs.commands.book_command.Goals as goal

pub returns : goal.returns
returns c =
    let with_file = one_more app_of _ _ _ _ _ c.with_arg-command.ensures c.word.ensures.rule c.with_help-command.ensures in
    one_more app_of _ _ _ _ _ c.with_arg.ensures c.option.ensures.rule with_file

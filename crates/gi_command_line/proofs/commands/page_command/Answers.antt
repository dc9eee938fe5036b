use Rattle.clap.specs.Words.{app_of}
use Rattle.gi_command_line.proofs.Building.{one_more}
use Rattle.gi_command_line.proofs.commands.page_command.Goals as goal

pub returns : goal.returns
returns c =
    let with_side = one_more app_of _ _ _ _ _ c.with_arg-command.ensures c.word.ensures.rule c.with_help-command.ensures in
    c.with_book.ensures _ (one_more app_of _ _ _ _ _ c.with_arg-command-2.ensures c.word-2.ensures.rule with_side)

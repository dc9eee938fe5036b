use Rattle.clap.specs.Words.{app_of}
use Rattle.gi_command_line.proofs.Building.{one_more}
use Rattle.gi_command_line.proofs.commands.serve_command.Goals as goal

pub returns : goal.returns
returns c =
    let with_sessions = one_more app_of _ _ _ _ _ c.with_arg-command.ensures c.option.ensures.rule c.with_help-command.ensures in
    let with_books = one_more app_of _ _ _ _ _ c.with_arg-command-2.ensures c.option-2.ensures.rule with_sessions in
    let with_wait = one_more app_of _ _ _ _ _ c.with_arg-command-3.ensures c.option-3.ensures.rule with_books in
    let with_old = one_more app_of _ _ _ _ _ c.with_arg-command-4.ensures c.flag.ensures.rule with_wait in
    let with_dry_run = one_more app_of _ _ _ _ _ c.with_arg-command-5.ensures c.flag-2.ensures.rule with_old in
    one_more app_of _ _ _ _ _ c.with_arg.ensures c.flag-3.ensures.rule with_dry_run

use Rattle.clap.specs.Words.{app_of}
use Rattle.gi_command_line.proofs.Building.{one_more}
use Rattle.gi_command_line.proofs.commands.office_command.Goals as goal

pub returns : goal.returns
returns c =
    let with_side = one_more app_of _ _ _ _ _ c.with_arg-command.ensures c.word.ensures.rule c.with_help-command.ensures in
    let with_book = one_more app_of _ _ _ _ _ c.with_arg-command-2.ensures c.needed.ensures.rule with_side in
    let with_point = one_more app_of _ _ _ _ _ c.with_arg-command-3.ensures c.needed-2.ensures.rule with_book in
    let with_clock = one_more app_of _ _ _ _ _ c.with_arg-command-4.ensures c.flag.ensures.rule with_point in
    let with_wait = one_more app_of _ _ _ _ _ c.with_arg-command-5.ensures c.option.ensures.rule with_clock in
    one_more app_of _ _ _ _ _ c.with_arg.ensures c.flag-2.ensures.rule with_wait

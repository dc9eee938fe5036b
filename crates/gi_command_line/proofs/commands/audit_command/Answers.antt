use Rattle.clap.specs.Words.{app_of}
use Rattle.gi_command_line.proofs.Building.{one_more}
use Rattle.gi_command_line.proofs.commands.audit_command.Goals as goal

pub returns : goal.returns
returns c =
    let with_initiating = one_more app_of _ _ _ _ _ c.with_arg-command.ensures c.needed.ensures.rule c.with_help-command.ensures in
    let with_matching = one_more app_of _ _ _ _ _ c.with_arg-command-2.ensures c.needed-2.ensures.rule with_initiating in
    let with_point = one_more app_of _ _ _ _ _ c.with_arg-command-3.ensures c.needed-3.ensures.rule with_matching in
    one_more app_of _ _ _ _ _ c.with_arg.ensures c.option.ensures.rule with_point

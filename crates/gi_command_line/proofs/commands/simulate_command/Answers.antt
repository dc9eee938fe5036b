use Rattle.clap.specs.Words.{app_of}
use Rattle.gi_command_line.proofs.Building.{one_more}
use Rattle.gi_command_line.proofs.commands.simulate_command.Goals as goal

pub returns : goal.returns
returns c =
    let with_trace = one_more app_of _ _ _ _ _ c.with_arg-command.ensures c.flag.ensures.rule c.with_help-command.ensures in
    one_more app_of _ _ _ _ _ c.with_arg.ensures c.flag-2.ensures.rule with_trace

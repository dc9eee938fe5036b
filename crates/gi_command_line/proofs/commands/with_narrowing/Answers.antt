use Rattle.clap.specs.Words.{app_of}
use Rattle.gi_command_line.proofs.Building.{one_more}
use Rattle.gi_command_line.proofs.commands.with_narrowing.Goals as goal

pub returns : goal.returns
returns c app is = one_more app_of _ _ _ _ _ c.with_arg.ensures c.option-2.ensures.rule (one_more app_of _ _ _ _ _ c.with_arg-command.ensures c.option.ensures.rule is)

use Rattle.clap.specs.Words.{app_of}
use Rattle.gi_command_line.proofs.Building.{one_more}
use Rattle.gi_command_line.proofs.commands.hours_command.Goals as goal

pub returns : goal.returns
returns c = one_more app_of _ _ _ _ _ c.with_arg.ensures c.word.ensures.rule c.with_help-command.ensures

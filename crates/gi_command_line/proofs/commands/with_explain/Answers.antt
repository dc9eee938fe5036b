use Rattle.std.proofs.Common.{refl}
use Rattle.gi_command_line.proofs.commands.with_explain.Goals as goal

pub returns : goal.returns
returns c = c.with.ensures _ c.explain_command.ensures refl

use Rattle.std.proofs.Common.{refl}
use Rattle.gi_command_line.proofs.commands.with_hours.Goals as goal

pub returns : goal.returns
returns c = c.with.ensures _ c.hours_command.ensures refl

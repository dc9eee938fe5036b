use Rattle.std.proofs.Common.{refl}
use Rattle.gi_command_line.proofs.commands.with_office.Goals as goal

pub returns : goal.returns
returns c = c.with.ensures _ c.office_command.ensures refl

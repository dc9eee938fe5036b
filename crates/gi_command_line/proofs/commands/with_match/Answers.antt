use Rattle.std.proofs.Common.{refl}
use Rattle.gi_command_line.proofs.commands.with_match.Goals as goal

pub returns : goal.returns
returns c = c.with.ensures _ c.match_command.ensures refl

use Rattle.std.proofs.Common.{refl}
use Rattle.gi_command_line.proofs.commands.with_serve.Goals as goal

pub returns : goal.returns
returns c = c.with.ensures _ c.serve_command.ensures refl

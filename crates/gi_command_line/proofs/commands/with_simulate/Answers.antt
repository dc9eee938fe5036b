use Rattle.std.proofs.Common.{refl}
use Rattle.gi_command_line.proofs.commands.with_simulate.Goals as goal

pub returns : goal.returns
returns c = c.with.ensures _ c.simulate_command.ensures refl

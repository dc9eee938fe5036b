use Rattle.std.proofs.Common.{refl}
use Rattle.gi_command_line.proofs.commands.with_page.Goals as goal

pub returns : goal.returns
returns c = c.with.ensures _ c.page_command.ensures refl

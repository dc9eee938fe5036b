use Rattle.std.proofs.Common.{refl}
use Rattle.gi_command_line.proofs.commands.with_book_command.Goals as goal

pub returns : goal.returns
returns c = c.with.ensures _ c.book_command.ensures refl

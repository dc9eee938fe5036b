use Rattle.std.proofs.Common.{◌∷◌, take}
use Rattle.json.specs.Token.{begin_array}
use Rattle.gi_messages.specs.Adding.{Added}
use Rattle.gi_messages.specs.Writing.{row_data}
use Rattle.gi_messages.proofs.WrittenTokens.{each_of}
use Rattle.gi_messages.proofs.row_writing.put_each_row.Given as goal

abbrev pub invariant-loop-row : goal.invariant-loop-row
invariant-loop-row l = Added l.fn.out l.out (begin_array ∷ each_of row_data (take l.row-index l.rows))

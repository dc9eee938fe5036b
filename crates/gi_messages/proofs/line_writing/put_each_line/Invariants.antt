use Rattle.std.proofs.Common.{◌∷◌, take}
use Rattle.json.specs.Token.{begin_array}
use Rattle.gi_messages.specs.Adding.{Added}
use Rattle.gi_messages.proofs.WrittenTokens.{each_of}
use Rattle.gi_messages.proofs.line_writing.put_each_line.Given as goal

abbrev pub invariant-loop-line : goal.invariant-loop-line
invariant-loop-line g l = Added l.fn.out l.out (begin_array ∷ each_of g.T.MessageLine.written (take l.line-index l.lines))

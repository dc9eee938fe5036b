use Rattle.std.proofs.Common.{◌≡◌, take, false}
use Rattle.std.specs.List.{list_any}
use Rattle.gi_live.specs.Lines.{is_query}
use Rattle.gi_live.proofs.input.has_query.Given as goal

abbrev pub invariant-loop-line : goal.invariant-loop-line
invariant-loop-line l = list_any is_query (take l.line-index l.lines) ≡ false

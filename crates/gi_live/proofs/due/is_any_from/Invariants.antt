use Rattle.std.proofs.Common.{◌≡◌, take, false}
use Rattle.std.specs.List.{list_any}
use Rattle.gi_live.specs.Due.{is_from}
use Rattle.gi_live.proofs.due.is_any_from.Given as goal

abbrev pub invariant-loop-id : goal.invariant-loop-id
invariant-loop-id l = list_any (is_from l.day l.cycle) (take l.id-index l.closed) ≡ false

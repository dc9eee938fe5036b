use Rattle.std.proofs.Common.{◌≡◌, take}
use Rattle.gi_exports.specs.Lines.{cycles_of}
use Rattle.gi_exports.proofs.listing.open_cycles.Given as goal

abbrev pub invariant-loop-id : goal.invariant-loop-id
invariant-loop-id g l = l.all.items ≡ cycles_of g.R.Role.SIDE l.desk (take l.id-index l.id-items)

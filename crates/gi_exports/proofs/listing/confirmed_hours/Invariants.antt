use Rattle.std.proofs.Common.{◌≡◌, take}
use Rattle.gi_exports.specs.Lines.{hours_of}
use Rattle.gi_exports.proofs.listing.confirmed_hours.Given as goal

abbrev pub invariant-loop-id : goal.invariant-loop-id
invariant-loop-id g l = l.all.items ≡ hours_of g.R.Role.SIDE l.desk (take l.id-index l.id-items)

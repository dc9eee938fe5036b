use Rattle.std.proofs.Common.{◌≡◌, ◌++◌, map, take}
use Rattle.std.specs.List.{enumerate_from}
use Rattle.gi_exports.specs.Lines.{hour_of}
use Rattle.gi_exports.proofs.listing.add_row.Given as goal

abbrev pub invariant-loop-place : goal.invariant-loop-place
invariant-loop-place l = l.all.items ≡ l.fn.all.items ++ map (λ counted. hour_of l.id l.row counted.0 counted.1) (enumerate_from l.first (take l.place l.row.hours))

use Rattle.std.proofs.Common.{◌≡◌, filter, length, take}
use Rattle.gi_reports.specs.Counts.{is_confirmed}
use Rattle.gi_live.proofs.answering.confirmed_count.Given as goal

abbrev pub invariant-loop-id : goal.invariant-loop-id
invariant-loop-id g l = l.count ≡ length (filter (is_confirmed g.R.Role.SIDE l.desk) (take l.id-index l.ids))

use Rattle.std.proofs.Common.{◌≡◌, ◌++◌, ◌≤◌, ◌+◌, ◌-◌, drop, length}
use Rattle.gi_lesser.specs.Walk.{lesser_rows}
use Rattle.gi_lesser.proofs.walk.lower_rows.Given as goal

-- what is left of both makes the rest
abbrev pub invariant-loop-i : goal.invariant-loop-i
invariant-loop-i l = record {
  ours : l.i ≤ length l.ours;
  theirs : l.j ≤ length l.theirs;
  rows : l.rows.items ++ lesser_rows (drop l.i l.ours) (drop l.j l.theirs) ≡ lesser_rows l.ours l.theirs;
}

abbrev pub decreases-loop-i : goal.decreases-loop-i
decreases-loop-i l = (length l.ours - l.i) + (length l.theirs - l.j)

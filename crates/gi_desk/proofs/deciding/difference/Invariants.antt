use Rattle.std.proofs.Common.{◌≡◌, ◌≤◌, length, drop}
use Rattle.gi_desk.specs.Deciding.{difference}
use Rattle.gi_desk.proofs.Differing.{later}
use Rattle.gi_desk.proofs.deciding.difference.Given as goal

abbrev pub invariant-loop-place : goal.invariant-loop-place
invariant-loop-place l = record {
  inside : l.place ≤ length l.others;
  same : difference l.rows l.others ≡ later l.place (difference (drop l.place l.rows) (drop l.place l.others));
}

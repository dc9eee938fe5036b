use Rattle.std.proofs.Common.{◌≡◌, ◌≤◌, length, take}
use Rattle.gi_picture.specs.Names.{ends}
use Rattle.gi_picture.proofs.names.ends.Given as goal

abbrev pub invariant-loop-line : goal.invariant-loop-line
invariant-loop-line l = record {
  value : l.ends.items ≡ ends l.frame l.hour (take l.line-index l.lines);
  few : length l.ends.items ≤ l.line-index;
}

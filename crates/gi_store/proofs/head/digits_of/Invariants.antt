use Rattle.std.proofs.Common.{◌≡◌, ◌++◌, length, drop}
use Rattle.gi_store.specs.Heads.{digits}
use Rattle.gi_store.proofs.head.digits_of.Given as goal

abbrev pub invariant-loop-place : goal.invariant-loop-place
invariant-loop-place l = record {
  full : length l.digits ≡ 10;
  written : digits 10 l.number ≡ digits l.place l.left ++ drop l.place l.digits;
}

use Rattle.std.proofs.Common.{◌≡◌, ◌+◌, ◌*◌, ◌≤◌, ◌^◌, take}
use Rattle.gi_store.specs.Heads.{number_in}
use Rattle.gi_store.proofs.head.number_of.Given as goal

abbrev pub invariant-loop-digit : goal.invariant-loop-digit
invariant-loop-digit l = record {
  told : l.number ≡ number_in (take l.digit-index l.digits);
  low : l.number + 23 ≤ 23 * 10 ^ l.digit-index;
}

use Rattle.std.proofs.Common.{◌≡◌, ◌≤◌, length, take, drop, vec_capacity}
use Rattle.std.specs.List.{AllByRecursion}
use Rattle.gi_facts.specs.Grammar.{IsWritable}
use Rattle.gi_office.proofs.copying.next_facts.Given as goal

abbrev pub invariant-loop-before : goal.invariant-loop-before
invariant-loop-before g l = record {
  copies : l.copies.items ≡ take l.before (drop l.saved l.desk.facts);
  writable : AllByRecursion IsWritable l.copies.items;
  counted : length l.copies.items ≡ l.before;
  room : l.count ≤ vec_capacity l.copies;
}

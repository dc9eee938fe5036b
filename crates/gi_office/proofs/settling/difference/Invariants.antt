use Rattle.std.proofs.Common.{◌≡◌, ◌≤◌, length, take}
use Rattle.gi_office.specs.Settling.{notes_of}
use Rattle.gi_office.proofs.settling.difference.Given as goal

abbrev pub invariant-loop-i : goal.invariant-loop-i
invariant-loop-i l = record {
  within : l.next ≤ length l.notes;
  same : take l.next l.notes ≡ notes_of l.number (take l.i l.trail);
}

use Rattle.std.proofs.Common.{◌≡◌, take}
use Rattle.gi_office.proofs.joining.first_other.Given as goal

abbrev pub invariant-loop-before : goal.invariant-loop-before
invariant-loop-before g l = take l.before l.later.facts ≡ take l.before l.former.facts

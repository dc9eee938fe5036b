use Rattle.std.proofs.Common.{◌≡◌, take}
use Rattle.gi_explanations.specs.Numbers.{last_number}
use Rattle.gi_explanations.specs.Wanted.{is_wanted}
use Rattle.gi_explanations.proofs.numbers.last.Given as goal

abbrev pub invariant-loop-before : goal.invariant-loop-before
invariant-loop-before g l = l.number ≡ last_number (is_wanted l.wanted) (take l.before l.desk.facts)

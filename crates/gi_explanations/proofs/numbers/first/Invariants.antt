use Rattle.std.proofs.Common.{◌≡◌, false, take}
use Rattle.std.specs.List.{list_any}
use Rattle.gi_explanations.specs.Wanted.{is_wanted}
use Rattle.gi_explanations.proofs.numbers.first.Given as goal

-- none of those before is so
abbrev pub invariant-loop-before : goal.invariant-loop-before
invariant-loop-before g l = list_any (is_wanted l.wanted) (take l.before l.desk.facts) ≡ false

use Rattle.std.proofs.Common.{◌≡◌, take, true}
use Rattle.std.specs.List.{list_all}
use Rattle.gi_live.specs.Telling.{may_tell_of}
use Rattle.gi_live.proofs.telling.may_tell_all.Given as goal

abbrev pub invariant-loop-came : goal.invariant-loop-came
invariant-loop-came l = list_all (may_tell_of l.saved) (take l.came-index l.cames) ≡ true

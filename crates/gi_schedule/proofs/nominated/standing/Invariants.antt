use Rattle.std.proofs.Common.{◌≡◌, take}
use Rattle.std.specs.Option.{option_copied}
use Rattle.gi_desk.specs.History.{documents_of}
use Rattle.gi_nominations.specs.Book.{in_force}
use Rattle.gi_schedule.proofs.nominated.standing.Given as goal

abbrev pub invariant-loop-before : goal.invariant-loop-before
invariant-loop-before g l = option_copied l.found ≡ in_force l.portfolio l.day (documents_of (take l.before l.desk.facts))

use Rattle.std.proofs.Common.{◌≡◌, take}
use Rattle.std.specs.List.{flat_map}
use Rattle.gi_commands.specs.Contents.{contracted}
use Rattle.gi_commands.proofs.contents.contracted.Given as goal

abbrev pub invariant-loop-fact : goal.invariant-loop-fact
invariant-loop-fact l = l.portfolios.items ≡ flat_map contracted (take l.fact-index l.facts)

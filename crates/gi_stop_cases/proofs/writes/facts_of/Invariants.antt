use Rattle.std.specs.List.{AllByRecursion}
use Rattle.gi_facts.specs.Grammar.{IsWritable}
use Rattle.gi_stop_cases.proofs.writes.facts_of.Given as goal

abbrev pub invariant-loop-word : goal.invariant-loop-word
invariant-loop-word l = AllByRecursion IsWritable l.facts.items

use Rattle.std.proofs.Common.{◌∷◌, take}
use Rattle.json.specs.Token.{begin_array}
use Rattle.gi_messages.specs.Adding.{Added}
use Rattle.gi_messages.proofs.WrittenTokens.{each_of}
use Rattle.gi_facts.specs.Writing.{data_of}
use Rattle.gi_facts.proofs.batch.put_facts.Given as goal

abbrev pub invariant-loop-fact : goal.invariant-loop-fact
invariant-loop-fact l = Added l.fn.out l.out (begin_array ∷ each_of data_of (take l.fact-index l.facts))

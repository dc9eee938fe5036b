use Rattle.std.proofs.Common.{◌≡◌, take}
use Rattle.gi_store.specs.Digests.{chain_from}
use Rattle.gi_store.proofs.chain.chain_from.Given as goal

abbrev pub invariant-loop-fact : goal.invariant-loop-fact
invariant-loop-fact l = l.chain ≡ chain_from l.fn.link (take l.fact-index l.facts)

-- The chain of digests over the texts of facts, which tells facts that were lost or changed.
use Rattle.std.specs.Prelude.{List, [], ◌++◌}
use Rattle.std.specs.List.{fold}
use Rattle.sha2.specs.Sha256.{sha256}
use Rattle.gi_facts.specs.declared.fact.Fact.{Fact}
use Rattle.gi_facts.specs.Writing.{fact_text}
use Rattle.gi_store.specs.declared.digest.Digest.{Digest}

-- the chain of no facts is the digest of nothing
abbrev pub first_link : Digest
first_link = record { bytes = sha256 [] }

-- The chain goes on by a fact: the digest of the chain's 32 bytes, followed by the fact's text.
abbrev pub next_link : Digest → Fact → Digest
next_link link fact = record { bytes = sha256 (link.bytes ++ fact_text fact) }

-- the chain gone on by these facts, one after the other
abbrev pub chain_from : Digest → List Fact → Digest
chain_from link facts = fold next_link link facts

-- the chain of facts, from the first on
abbrev pub chain_of : List Fact → Digest
chain_of facts = chain_from first_link facts

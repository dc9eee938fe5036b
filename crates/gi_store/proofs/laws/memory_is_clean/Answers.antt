use Rattle.sqlite.proofs.Callers as callers
use Rattle.gi_store.proofs.laws.memory_is_clean.Goals as goal

pub returns : goal.returns
returns c = callers.memory_is_clean

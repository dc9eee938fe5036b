use Rattle.gi_store.proofs.copies.copied.Goals as goal

pub returns-in-Ok-clause-idle : goal.returns-in-Ok-clause-idle
returns-in-Ok-clause-idle c = λ clean.
    let opened = c.in-Ok.ensures.opened clean in
    record { autocommit = opened.0.autocommit; settled = λ is_open. opened.0.clean }

pub returns-in-Ok-clause-found : goal.returns-in-Ok-clause-found
returns-in-Ok-clause-found c = (_, c.in_ok-disk_of-2.ensures.bytes, c.in_ok-disk_of.ensures.bytes, c.in-Ok.ensures.found)

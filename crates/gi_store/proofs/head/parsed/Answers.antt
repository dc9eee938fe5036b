use Rattle.std.proofs.Common.{◌∙◌, sym}
use Rattle.gi_store.proofs.Heads.{both_parts, not_none, number_back, same_some}
use Rattle.gi_store.proofs.head.parsed.Goals as goal

pub returns-in_err-facts : goal.returns-in_err-facts
returns-in_err-facts c head is number digest = absurd (not_none c.in_err-facts.was (number_back _ _ _ is.facts number c.number_of.ensures))

pub returns-in_err-digest : goal.returns-in_err-digest
returns-in_err-digest c head is number digest = absurd (not_none c.in_err-digest.was (c.from_digits.ensures head.digest is.length is.bytes digest))

pub returns : goal.returns
returns c head is number digest = both_parts _ _ head
    (same_some (sym c.in_ok-facts.was ∙ number_back _ _ _ is.facts number c.number_of.ensures))
    (same_some (sym c.in_ok-digest.was ∙ c.from_digits.ensures head.digest is.length is.bytes digest))

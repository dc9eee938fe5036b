use Rattle.std.proofs.Common.{◌∙◌, refl}
use Rattle.gi_facts.proofs.SameLemmas.{documents_compare}
use Rattle.gi_facts.proofs.fact.Fact.is.Goals as goal

pub returns-in-Nominated-Nominated : goal.returns-in-Nominated-Nominated
returns-in-Nominated-Nominated c =
    let a = c.in-Nominated-Nominated.a in
    let b = c.in-Nominated-Nominated.b in
    rw (c.in-Nominated-Nominated.is-0, c.in-Nominated-Nominated.is-1) (c.eq-in-Nominated-Nominated.ensures ∙ documents_compare _ refl refl refl refl a b)

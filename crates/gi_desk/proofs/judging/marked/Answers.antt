use Rattle.std.proofs.Common.{◌≡◌, ℕ, ◌+◌, ◌<◌, Some, List, length, slice_get, refl, ◌∙◌, rules, tests}
use Rattle.std.proofs.lemmas.Bool.{eq-eqb}
use Rattle.std.proofs.lemmas.Option.{slice_get_read}
use Rattle.gi_desk.specs.Judging.{if_same, marked}
use Rattle.gi_facts.specs.declared.fact.Fact.{Fact}
use Rattle.gi_desk.proofs.judging.marked.Goals as goal

-- the mark of the next fact
marked_next : (facts : List Fact) (saved n : ℕ) (fact next : Fact) → n ≡ saved + 1 → slice_get facts saved ≡ Some next → if_same n fact (Some next) ≡ marked facts saved n fact
marked_next facts saved n fact next expected found = rw (eq-eqb n (saved + 1) expected, found) refl

pub returns : goal.returns
returns c =
    let facts = c.args.facts.now in
    let next = c.index-facts-place.result in
    let expected : c.args.n ≡ c.args.saved + 1 = search (rules, tests) in
    let below : c.args.saved < length facts = search (rules, tests) in
    let found : slice_get facts c.args.saved ≡ Some next = slice_get_read facts (length facts) c.args.saved next refl below c.index-facts-place.is in
    c.if_same.ensures ∙ marked_next facts c.args.saved c.args.n c.args.fact.now next expected found

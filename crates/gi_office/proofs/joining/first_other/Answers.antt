use Rattle.std.proofs.Common.{◌≡◌, ◌+◌, sym, ◌∙◌, arith}
use Rattle.gi_desk.specs.Queries.{fact_at}
use Rattle.gi_office.proofs.Breaking.{one_same}
use Rattle.gi_office.proofs.joining.first_other.Goals as goal

pub loop-before-preserved : goal.loop-before-preserved
loop-before-preserved g c =
    let later = c.args.later.now.facts in
    let former = c.args.former.now.facts in
    let n = c.loop-before.before in
    let within = c.requires in
    let below = c.loop-before-test.true in
    let same : fact_at later (n + 1) ≡ fact_at former (n + 1) =
    sym c.fact.ensures.value ∙ c.is_same.ensures.0 c.if-not-is_same.false ∙ c.fact-in-loop-before.ensures.value in
    one_same later former n (omega (arith, within, below)) c.loop-before.invariant same

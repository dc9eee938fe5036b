use Rattle.std.proofs.Common.{◌≡◌, ◌+◌, ◌∙◌, Some, sym, ap, rules}
use Rattle.std.specs.Option.{option_copied}
use Rattle.gi_desk.specs.Queries.{fact_at}
use Rattle.gi_world.specs.World.{StationState}
use Rattle.gi_world.proofs.FirstFacts.{front-more}
use Rattle.gi_world.proofs.station.Station.front.Goals as goal

pub loop-before-preserved : goal.loop-before-preserved
loop-before-preserved g c =
    let facts = c.args.self.now.desk.facts in
    let n = c.loop-before.before in
    let found : option_copied c.fact.result ≡ fact_at facts (n + 1) = c.fact.ensures.value ∙ ap (λ (s : StationState). fact_at s.desk.facts (n + 1)) c.self.view_is in
    let same : c.in_ok-copy.field-0 ≡ c.unwrap.result.now = c.in_ok-copy.ensures in
    let some : option_copied c.fact.result ≡ Some c.unwrap.result.now = search rules in
    c.in_ok-push.ensures.items ∙ front-more facts c.loop-before.facts.items n c.in_ok-copy.field-0 c.loop-before.invariant (sym found ∙ some ∙ ap Some (sym same))

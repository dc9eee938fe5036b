use Rattle.std.proofs.Common.{◌∙◌, ap, sym, subst}
use Rattle.std.specs.BTreeMap.Range.{IsLeBy, IsRangeOf}
use Rattle.std.specs.Range.{range_inclusive_end}
use Rattle.std.specs.declared.ops.Bound.TheVariants.{Included}
use Rattle.gi_pairs.specs.CycleId.{answered}
use Rattle.gi_pairs.specs.declared.cycle_id.CycleId.{CycleId}
use Rattle.gi_desk.specs.History.{last_closed}
use Rattle.gi_desk.specs.Machine.{DeskState}
use Rattle.gi_desk.proofs.StageReadings.{day-forward, first_of, last-read, none-read}
use Rattle.gi_desk.proofs.desk.Desk.last_closed.Goals as goal

pub range-requires : goal.range-requires
range-requires g c =
    subst (λ (first : CycleId). IsLeBy answered first (range_inclusive_end c.new.result)) (sym c.new.ensures.start)
    (subst (λ (last : CycleId). IsLeBy answered (first_of c.args.day) last) (sym c.new.ensures.end) (day-forward c.args.day))

pub returns-in-Some : goal.returns-in-Some
returns-in-Some g c =
    let inside = c.self.inside in
    let day = c.args.day in
    let from = subst (λ (first : CycleId). IsRangeOf answered (Included first) (Included (range_inclusive_end c.new.result)) inside.kept.stages c.range.result) c.new.ensures.start (c.range.ensures.in_range c.new.ensures.exhausted) in
    let within = subst (λ (last : CycleId). IsRangeOf answered (Included (first_of day)) (Included last) inside.kept.stages c.range.result) c.new.ensures.end from in
    last-read g.R.Role.SIDE inside.point inside.facts.items day inside.kept.stages c.range.result c.self.invariant.keeps.stages within _ _ c.in-Some.ensures.steps
    ∙ ap (λ (s : DeskState). last_closed day s.facts) c.self.view_is

pub returns-in-None : goal.returns-in-None
returns-in-None g c =
    let inside = c.self.inside in
    let day = c.args.day in
    let from = subst (λ (first : CycleId). IsRangeOf answered (Included first) (Included (range_inclusive_end c.new.result)) inside.kept.stages c.range.result) c.new.ensures.start (c.range.ensures.in_range c.new.ensures.exhausted) in
    let within = subst (λ (last : CycleId). IsRangeOf answered (Included (first_of day)) (Included last) inside.kept.stages c.range.result) c.new.ensures.end from in
    none-read g.R.Role.SIDE inside.point inside.facts.items day inside.kept.stages c.range.result c.self.invariant.keeps.stages within c.in-None.ensures.steps.0
    ∙ ap (λ (s : DeskState). last_closed day s.facts) c.self.view_is

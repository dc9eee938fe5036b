use Rattle.std.proofs.Common.{◌∙◌, ◌+◌, ◌-◌, Bool, cond, Some, ap, sym, refl}
use Rattle.gi_audit.specs.Place.{differing_from, differing_hour}
use Rattle.gi_audit.proofs.PlaceLemmas.{no-hour, one-hour}
use Rattle.gi_audit.proofs.place.differing_hour.Goals as goal

pub loop-hour-init : goal.loop-hour-init
loop-hour-init c = refl

pub returns-then-differs_in : goal.returns-then-differs_in
unfolding differing_hour
returns-then-differs_in c =
    let met = c.args.met.now in
    let written = c.args.written.now in
    let key = c.args.key.now in
    let hour = c.loop-hour.hour in
    sym (sym c.loop-hour.invariant ∙ one-hour met written key hour c.loop-hour-test.true
    ∙ ap (λ (b : Bool). cond b (Some hour) (differing_from met written key (26 - (hour + 1)) (hour + 1))) (sym c.differs_in.ensures ∙ c.if-differs_in.true))

pub loop-hour-preserved : goal.loop-hour-preserved
loop-hour-preserved c =
    let met = c.args.met.now in
    let written = c.args.written.now in
    let key = c.args.key.now in
    let hour = c.loop-hour.hour in
    sym (one-hour met written key hour c.loop-hour-test.true
    ∙ ap (λ (b : Bool). cond b (Some hour) (differing_from met written key (26 - (hour + 1)) (hour + 1))) (sym c.differs_in.ensures ∙ c.if-differs_in.false))
    ∙ c.loop-hour.invariant

pub returns : goal.returns
unfolding differing_hour
returns c = sym (sym c.loop-hour.invariant ∙ no-hour c.args.met.now c.args.written.now c.args.key.now c.loop-hour.hour c.loop-hour-test.false)

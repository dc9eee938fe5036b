use Rattle.std.proofs.Common.{◌≡◌, ◌++◌, ◌∙◌, List, OnOk, subst}
use Rattle.gi_desk.specs.Queries.{confirmed}
use Rattle.gi_schedule.proofs.LineLemmas.{schedule_is}
use Rattle.gi_schedule.specs.declared.schedule_line.ScheduleLine.{ScheduleLine}
use Rattle.gi_schedule.proofs.listing.add_day.Goals as goal

pub returns : goal.returns
returns g c =
    subst (λ (l : List ScheduleLine). OnOk c.add_listed.result (c.add_listed.new.lines.items ≡ c.args.lines.now.items ++ l))
    (schedule_is (confirmed g.R.Role.SIDE c.args.desk.now) c.args.wanted.now.portfolio c.args.day c.deref.result.now c.deref-2.result.now
    (c.deref.ensures.value ∙ c.in_ok-keys.ensures.value) (c.deref-2.ensures.value ∙ c.in_ok-hours.ensures.value))
    c.add_listed.ensures

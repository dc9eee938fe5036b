use Rattle.gi_page.proofs.MarkLemmas.{mark_more}
use Rattle.gi_page.proofs.cycle_marks.cycle_marks.Goals as goal

pub loop-cycle-preserved : goal.loop-cycle-preserved
loop-cycle-preserved g c =
    mark_more g.R.Role.SIDE c.args.desk.now c.args.frame c.day.result c.loop-cycle.cycle c.loop-cycle.marks.items c.push.new.self.items c.mark.result
    c.day.ensures c.loop-cycle.invariant c.mark.ensures c.in_ok-push.ensures.items

use Rattle.gi_office.proofs.Turns.{stood, stood_not}
use Rattle.gi_office.proofs.office.Office.save_front.Goals as goal

pub returns-in-Ok : goal.returns-in-Ok
returns-in-Ok g c =
    stood g.R.Role.SIDE g.S.Store c.args.book.now c.write.new.book c.args.n c.args.facts.items c.deref.result.now c.args.front c.in-Ok.count c.args.seat.now c.mark_first.result c.mark_first.new.seat
    c.deref.ensures.value c.requires.longest
    c.in-Ok.ensures.early c.in-Ok.ensures.writes c.in-Ok.ensures.unwritten c.in-Ok.ensures.within c.in-Ok.ensures.stand c.in-Ok.ensures.ahead c.in-Ok.ensures.behind
    c.mark_first.ensures

pub returns-in-Err : goal.returns-in-Err
returns-in-Err g c =
    stood_not g.R.Role.SIDE g.S.Store c.args.book.now c.write.new.book c.args.n c.args.facts.items c.deref.result.now c.args.front c.in-Err.fault c.args.seat.now c.stop.result c.stop.new.seat
    c.deref.ensures.value c.requires.longest
    c.in-Err.ensures.early c.in-Err.ensures.writes c.in-Err.ensures.unwritten c.in-Err.ensures.refused c.stop.ensures

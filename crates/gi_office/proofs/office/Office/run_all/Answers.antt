use Rattle.std.proofs.Common.{rules, ◌≡◌, length, slice_index_or}
use Rattle.gi_office.proofs.Sessions.{each-served, served-there}
use Rattle.gi_office.proofs.office.Office.run_all.Goals as goal

pub returns : goal.returns
returns g c =
    let side = g.R.Role.SIDE in
    let may_go = g.G.Gate.may_go c.args.gate.now in
    let may_end = g.G.Gate.may_end c.args.gate.now in
    let old = c.args.works.now in
    let new = c.for_each_mut.new.s in
    let long : length old ≡ length new = search rules in
    each-served side may_go may_end 1 old new long
    (λ i d below. let at = (c.for_each_mut.ensures i d below).1 in
    served-there side may_go may_end i (slice_index_or old i d) (slice_index_or new i d) at.argument.now at.after_call.now at.argument_is at.left at.call)

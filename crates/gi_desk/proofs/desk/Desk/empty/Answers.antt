use Rattle.gi_desk.proofs.CacheLaws.{kept-none}
use Rattle.gi_desk.proofs.desk.Desk.empty.Goals as goal

pub invariant_of-result : goal.invariant_of-result
invariant_of-result g c =
    kept-none g.R.Role.SIDE c.args.point c.new.result.items (record { book = c.new-2.result; contracts = c.new-3.result; takings = c.new-4.result; stages = c.new-5.result })
    c.reveal_invariant.ensures c.new.ensures.items c.new-5.ensures.empty c.new-4.ensures.empty c.new-2.ensures c.new-3.ensures

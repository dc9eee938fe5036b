use Rattle.std.proofs.Common.{◌≡◌, ◌≤◌, ◌+◌, ◌-◌}
use Rattle.std.specs.Prelude.{max}
use Rattle.gi_desk.proofs.Told.{let_out_between}
use Rattle.gi_desk.proofs.desk.Desk.outgoing.Given as goal

-- the packets are what the numbers passed let out, of which none is above the saved ones
abbrev pub invariant-loop-n : goal.invariant-loop-n
invariant-loop-n g l = (l.packets.items ≡ let_out_between g.R.Role.SIDE l.self (max 1 l.fn.first) l.n)
    × (l.n - max 1 l.fn.first ≤ l.self.saved + 1 - max 1 l.fn.first)

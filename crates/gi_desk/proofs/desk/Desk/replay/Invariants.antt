use Rattle.std.proofs.Common.{◌≡◌, [], ◌++◌, length, false, None}
use Rattle.std.specs.Vec.Iter.{into_iter_items, into_iter_len}
use Rattle.gi_desk.specs.Machine.{bad_fact}
use Rattle.gi_desk.proofs.desk.Desk.replay.Given as goal

-- the desk has the facts taken so far, which are legal
abbrev pub invariant-loop-fact : goal.invariant-loop-fact
invariant-loop-fact g l = (l.yielded ++ into_iter_items l.fact-iterator ≡ into_iter_items l.initial.fact-iterator)
    × (l.desk ≡ record { point = l.fn.point; facts = l.yielded; saved = 0; halted = false; kept = [] })
    × (bad_fact g.R.Role.SIDE l.fn.point l.yielded ≡ None)
    × (into_iter_len l.fact-iterator ≡ length (into_iter_items l.fact-iterator))

use Rattle.std.proofs.Common.{◌≡◌, ◌+◌, suc, arith}
use Rattle.gi_clock.proofs.FeedLemmas.{found, none}
use Rattle.gi_clock.proofs.held.whole.Goals as goal

pub returns-in-Some : goal.returns-in-Some
returns-in-Some c =
    let last = c.in-Some.ensures in
    let split = found c.args.bytes.now c.in-Some.at last.0.high (λ j above below. last.0.after j (omega arith) below) last.1 in
    let next : c.in-Some.at + 1 ≡ suc c.in-Some.at = omega arith in
    rw next (split.0, omega (arith, last.0.high), split.1, split.2)

pub returns-in-None : goal.returns-in-None
returns-in-None c = none c.args.bytes.now (λ j below. c.in-None.ensures j (omega arith) below)

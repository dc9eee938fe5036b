use Rattle.gi_clock.proofs.HeldLemmas.{given_split}
use Rattle.gi_clock.proofs.held.Held.give.Goals as goal

pub returns-clause-given : goal.returns-clause-given
returns-clause-given c = λ events.
    rw (c.hand_on.ensures.handed, c.hand_on.ensures.rest) (given_split c.min-count.result c.args.self.now.rest _)

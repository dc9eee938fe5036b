use Rattle.gi_office.proofs.Sames.{marks}
use Rattle.std.specs.Prelude.{IsTrue}
use Rattle.gi_office.proofs.comparing.is_same_call.Goals as goal

pub returns-then-a-b : goal.returns-then-a-b
returns-then-a-b c =
    let both = c.in-MarkSaved-MarkSaved in
    marks (IsTrue c.is_same_fact.result) both.a both.b _ _ c.args.call.now c.args.other.now both.is-0 both.is-1 c.if-a-b.true c.is_same_fact.ensures

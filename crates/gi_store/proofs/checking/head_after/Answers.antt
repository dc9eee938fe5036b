use Rattle.std.proofs.Common.{◌∙◌, rules}
use Rattle.gi_store.specs.Heads.{Tells}
use Rattle.gi_store.proofs.Heads.{gone_on_rest}
use Rattle.gi_store.proofs.checking.head_after.Goals as goal

pub returns-in_ok-then-in-Some-clause-head : goal.returns-in_ok-then-in-Some-clause-head
returns-in_ok-then-in-Some-clause-head c =
    let whole : Tells c.in-Some.before c.args.facts.now = search rules in
    c.in_ok-then-in-Some.ensures ∙ gone_on_rest c.in-Some.before c.args.facts.now whole

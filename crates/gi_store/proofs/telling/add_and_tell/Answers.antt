use Rattle.std.proofs.Common.{Option, IsSome, subst}
use Rattle.sqlite.specs.Held.{state}
use Rattle.gi_facts.specs.Batch.{batch_text}
use Rattle.gi_store.specs.declared.head.Head.{Head}
use Rattle.gi_store.proofs.Heads.{puts_at_least}
use Rattle.gi_store.proofs.Kept.{on_err}
use Rattle.gi_store.proofs.telling.add_and_tell.Goals as goal

pub returns-in_err-head-clause-kept : goal.returns-in_err-head-clause-kept
returns-in_err-head-clause-kept g c clean =
    let is_kept : Option Head → Type 0 = λ head. IsSome head in
    let some = subst is_kept c.take-kept.ensures.value c.in_err-head.ensures.kept in
    on_err _ (puts_at_least c.args.head.now c.args.n (batch_text c.args.facts.now) (state g.S.Store c.args.connection.now) (state g.S.Store c.add_facts.new.connection) some (c.in_ok-add_facts.ensures.written clean))

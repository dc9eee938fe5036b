use Rattle.std.proofs.Common.{◌≡◌, ◌+◌, ◌∙◌, ℕ, List, [], sym, ap, arith}
use Rattle.gi_pairs.specs.declared.key.Key.{Key}
use Rattle.gi_desk.specs.Queries.{confirmed}
use Rattle.gi_schedule.specs.InForce.{cycle_of}
use Rattle.gi_schedule.specs.Keys.{keys_before, keys_if}
use Rattle.gi_schedule.proofs.KeyLemmas.{cycle_more, with_none}
use Rattle.gi_changes.specs.Changes.{changes_if}
use Rattle.gi_changes.proofs.ChangeLemmas.{changes_all, changes_more}
use Rattle.gi_changes.proofs.changes.day_changes.Goals as goal

pub loop-cycle-init : goal.loop-cycle-init
loop-cycle-init g c = record { keys = c.new-keys.ensures.empty ∙ sym (with_none []); lines = c.new-lines.ensures.items }

pub loop-cycle-preserved : goal.loop-cycle-preserved
loop-cycle-preserved g c =
    let side = g.R.Role.SIDE in
    let of : ℕ → List Key = λ cycle. keys_if c.args.wanted.now.portfolio (confirmed side c.args.desk.now (cycle_of c.args.day cycle)) in
    let keys : c.add_cycle_keys.new.keys.keys ≡ keys_before (confirmed side c.args.desk.now) c.args.wanted.now.portfolio c.args.day (c.loop-cycle.cycle + 1) =
    cycle_more of c.loop-cycle.cycle (of c.loop-cycle.cycle) c.loop-cycle.keys.keys c.add_cycle_keys.new.keys.keys c.loop-cycle.invariant.keys (λ _. of c.loop-cycle.cycle)
    c.in_ok-add_cycle_keys.ensures.added in
    record {
      keys = keys;
      lines = changes_more (confirmed side c.args.desk.now) c.args.wanted.now.portfolio c.args.day c.loop-cycle.cycle c.add_cycle_keys.new.keys.keys c.loop-cycle.lines.items c.add_cycle.new.lines.items
          keys c.loop-cycle.invariant.lines c.in_ok-add_cycle.ensures;
    }

pub returns : goal.returns
returns g c = c.loop-cycle.invariant.lines ∙ changes_all (confirmed g.R.Role.SIDE c.args.desk.now) c.args.wanted.now.portfolio c.args.day c.loop-cycle.cycle (omega arith)

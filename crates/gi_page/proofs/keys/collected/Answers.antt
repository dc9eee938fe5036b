use Rattle.std.proofs.Common.{◌∙◌, ℕ, List, [], sym, ap, arith, length}
use Rattle.gi_pairs.specs.declared.key.Key.{Key}
use Rattle.gi_schedule.specs.InForce.{cycle_of}
use Rattle.gi_schedule.proofs.KeyLemmas.{cycle_more, with_none}
use Rattle.gi_page.specs.Keys.{cycle_keys}
use Rattle.gi_page.proofs.KeyLemmas.{keys_all}
use Rattle.gi_page.proofs.keys.collected.Goals as goal

pub loop-cycle-init : goal.loop-cycle-init
loop-cycle-init g c =
    let none = ap (λ (l : List Key). length l) c.new-keys.ensures.empty in
    record { added = c.new-keys.ensures.empty ∙ sym (with_none []); few = omega (arith, none) }

pub loop-cycle-preserved : goal.loop-cycle-preserved
loop-cycle-preserved g c =
    let of : ℕ → List Key = λ cycle. cycle_keys g.R.Role.SIDE c.args.desk.now (cycle_of c.args.day cycle) in
    record {
      added = cycle_more of c.loop-cycle.cycle (of c.loop-cycle.cycle) c.loop-cycle.keys.keys c.add_cycle.new.keys.keys c.loop-cycle.invariant.added (λ _. of c.loop-cycle.cycle) c.in_ok-add_cycle.ensures.added;
      few = omega (arith, c.loop-cycle.invariant.few, c.in_ok-add_cycle.ensures.few);
    }

pub returns-clause-keys : goal.returns-clause-keys
returns-clause-keys g c = c.loop-cycle.invariant.added ∙ keys_all g.R.Role.SIDE c.args.desk.now c.args.day c.loop-cycle.cycle (omega arith)

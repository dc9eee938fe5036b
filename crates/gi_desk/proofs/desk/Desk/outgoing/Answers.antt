use Rattle.std.proofs.Common.{arith, ◌≡◌, ◌<◌, ◌≤◌, ◌+◌, ◌-◌, List, length, true, ap, subst, ◌∙◌}
use Rattle.std.specs.Prelude.{max}
use Rattle.gi_desk.specs.Machine.{DeskState, some_leave}
use Rattle.gi_desk.specs.declared.packet.Packet.{Packet}
use Rattle.gi_desk.proofs.Called.{if_failed}
use Rattle.gi_desk.proofs.Leaving.{leave-many, outgoing-leave}
use Rattle.gi_desk.proofs.Legality.{legal-few}
use Rattle.gi_desk.proofs.Told.{all_between, none_between, one_between, start_of}
use Rattle.gi_desk.proofs.desk.Desk.outgoing.Goals as goal

pub overflow_add-n-end : goal.overflow_add-n-end
overflow_add-n-end g c =
    let few = legal-few g.R.Role.SIDE c.self.inside.point c.self.inside.facts.items c.self.invariant.keeps.stages.legal in
    let within = c.self.invariant.within in
    grind (arith, few, within)

pub loop-n-init : goal.loop-n-init
loop-n-init g c =
    let start = start_of c.args.first c.max-n.result c.max-n.ensures in (
      c.new-packets.ensures.items ∙ none_between g.R.Role.SIDE c.args.self.now c.args.first c.max-n.result c.max-n.ensures,
      omega (arith, start),
    )

pub loop-n-preserved : goal.loop-n-preserved
loop-n-preserved g c =
    let s = c.args.self.now in
    let start = start_of c.args.first c.max-n.result c.max-n.ensures in
    let saved = ap (λ (s : DeskState). s.saved) c.self.view_is in
    let above : max 1 c.args.first ≤ c.loop-n.n = omega (arith, start) in
    let below : c.loop-n.n + 1 ≤ s.saved + 1 = omega (arith, saved) in (
      one_between g.R.Role.SIDE s (max 1 c.args.first) c.loop-n.n c.loop-n.packets.items c.in_ok-later.later.items c.append.new.self.items
          above c.loop-n.invariant.0 c.in_ok-later.ensures.value c.in_ok-append.ensures.items,
      omega (arith, below),
    )

pub returns-in_err-later-clause-short : goal.returns-in_err-later-clause-short
returns-in_err-later-clause-short g c =
    let s = c.args.self.now in
    let start = start_of c.args.first c.max-n.result c.max-n.ensures in
    let saved = ap (λ (s : DeskState). s.saved) c.self.view_is in
    let above : max 1 c.args.first ≤ c.loop-n.n = omega (arith, start) in
    let below : c.loop-n.n ≤ s.saved = omega (arith, saved) in
    if_failed c.from_residual.result (outgoing-leave g.R.Role.SIDE s c.args.first c.loop-n.n above below c.in_err-later.ensures.short)

pub returns-in_err-append-clause-short : goal.returns-in_err-append-clause-short
returns-in_err-append-clause-short g c =
    let s = c.args.self.now in
    let start = start_of c.args.first c.max-n.result c.max-n.ensures in
    let saved = ap (λ (s : DeskState). s.saved) c.self.view_is in
    let above : max 1 c.args.first ≤ c.loop-n.n = omega (arith, start) in
    let below : c.loop-n.n ≤ s.saved = omega (arith, saved) in
    let full = c.in_err-append.ensures.full in
    let more : 0 < length c.in_ok-later.later.items = omega (arith, full) in
    let some = subst (λ (packets : List Packet). some_leave packets ≡ true) c.in_ok-later.ensures.value (leave-many c.in_ok-later.later.items more) in
    if_failed c.from_residual-in_err-append.result (outgoing-leave g.R.Role.SIDE s c.args.first c.loop-n.n above below some)

pub returns-clause-value : goal.returns-clause-value
returns-clause-value g c =
    let saved = ap (λ (s : DeskState). s.saved) c.self.view_is in
    let within = c.loop-n.invariant.1 in
    let ends : c.loop-n.n - max 1 c.args.first ≡ c.args.self.now.saved + 1 - max 1 c.args.first = omega (arith, within, saved) in
    c.from.ensures ∙ c.loop-n.invariant.0 ∙ all_between g.R.Role.SIDE c.args.self.now c.args.first c.loop-n.n ends

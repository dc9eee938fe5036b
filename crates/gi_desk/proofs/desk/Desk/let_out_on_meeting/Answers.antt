use Rattle.std.proofs.Common.{arith, ◌≡◌, ◌<◌, List, length, true, ap, subst, ◌∙◌}
use Rattle.gi_desk.specs.LetOut.{sent}
use Rattle.gi_desk.specs.Machine.{DeskState, some_leave}
use Rattle.gi_desk.specs.Messages.{on_met, told_packets}
use Rattle.gi_desk.specs.declared.packet.Packet.{Packet}
use Rattle.gi_desk.proofs.Called.{if_failed}
use Rattle.gi_desk.proofs.Leaving.{leave-last, leave-many}
use Rattle.gi_desk.proofs.desk.Desk.let_out_on_meeting.Goals as goal

pub returns-in_err-told-clause-short : goal.returns-in_err-told-clause-short
returns-in_err-told-clause-short g c =
    let side = g.R.Role.SIDE in
    let cycle = c.args.cycle.now in
    let point = ap (λ (s : DeskState). s.point) c.self.view_is in
    let told : told_packets c.SIDE.result c.self.inside.point cycle ≡ told_packets side c.args.self.now.point cycle = λ t. told_packets (c.SIDE.ensures t) (point t) cycle in
    let some = subst (λ (packets : List Packet). some_leave packets ≡ true) told c.in_err-told.ensures.short in
    if_failed c.from_residual-in_err-told.result (leave-last (sent (on_met side c.args.self.now.point cycle)) (told_packets side c.args.self.now.point cycle) some)

pub returns-in_err-append-clause-short : goal.returns-in_err-append-clause-short
returns-in_err-append-clause-short g c =
    let side = g.R.Role.SIDE in
    let cycle = c.args.cycle.now in
    let point = ap (λ (s : DeskState). s.point) c.self.view_is in
    let full = c.in_err-append.ensures.full in
    let more : 0 < length c.in_ok-told.told.items = omega (arith, full) in
    let told = c.in_ok-told.ensures.value ∙ (λ t. told_packets (c.SIDE.ensures t) (point t) cycle) in
    let some = subst (λ (packets : List Packet). some_leave packets ≡ true) told (leave-many c.in_ok-told.told.items more) in
    if_failed c.from_residual-in_err-append.result (leave-last (sent (on_met side c.args.self.now.point cycle)) (told_packets side c.args.self.now.point cycle) some)

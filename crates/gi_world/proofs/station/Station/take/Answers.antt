use Rattle.std.proofs.Common.{◌≡◌, ◌<◌, List, length, filter, All, ap, arith, rules, subst, sym, ◌∙◌}
use Rattle.std.specs.Prelude.{IsTrue}
use Rattle.gi_desk.specs.Machine.{is_for_peer, may_want, reply}
use Rattle.gi_desk.specs.declared.packet.Packet.{Packet}
use Rattle.gi_desk.specs.declared.prepared.Prepared.{Prepared}
use Rattle.gi_desk.specs.declared.reply.Reply.{Reply}
use Rattle.gi_world.specs.World.{IsFromDesk, StationState, tells}
use Rattle.gi_desk.proofs.StepLaws.{made-wants, prepared-wants}
use Rattle.gi_world.proofs.MemoryWanted.{lets_out_short, some_before, some_of_both}
use Rattle.gi_world.proofs.DeskPackets.{all_from_desk}
use Rattle.gi_world.proofs.station.Station.take.Goals as goal

pub returns-in_default-clause-short : goal.returns-in_default-clause-short
returns-in_default-clause-short g c =
    let side = g.R.Role.SIDE in
    let call = c.args.call.now in
    let is : c.in_ok-prepared.prepared.reply ≡ reply side c.self.inside.desk call = ap (λ (p : Prepared). p.reply) c.in_ok-prepared.ensures.value in
    let some = subst (λ (packets : List Packet). 0 < length packets) (c.as_slice-out.ensures ∙ ap (λ (r : Reply). r.out) c.reply.ensures) (some_of_both is_for_peer tells c.as_slice-out.result.now c.in_default.ensures.short) in
    (subst (λ (s : StationState). IsTrue (may_want side s.desk call)) c.self.view_is (lets_out_short side c.self.inside.desk call _ is some))

pub returns-in_default-reserve-clause-short : goal.returns-in_default-reserve-clause-short
returns-in_default-reserve-clause-short g c =
    let side = g.R.Role.SIDE in
    let call = c.args.call.now in
    let is : c.in_ok-prepared.prepared.reply ≡ reply side c.self.inside.desk call = ap (λ (p : Prepared). p.reply) c.in_ok-prepared.ensures.value in
    let full = c.in_default-reserve.ensures.full in
    let len = c.len.ensures in
    let more : 0 < length c.in-Ok.sent.items = omega (arith, full, len) in
    let out = c.as_slice-out.ensures ∙ ap (λ (r : Reply). r.out) c.reply.ensures in
    let kept = subst (λ (packets : List Packet). 0 < length packets) (c.in-Ok.ensures.sent ∙ ap (filter is_for_peer) out) more in
    (subst (λ (s : StationState). IsTrue (may_want side s.desk call)) c.self.view_is (lets_out_short side c.self.inside.desk call _ is (some_before is_for_peer _ kept)))

pub returns-in_default-reserve-2-clause-short : goal.returns-in_default-reserve-2-clause-short
returns-in_default-reserve-2-clause-short g c =
    let side = g.R.Role.SIDE in
    let call = c.args.call.now in
    let is : c.in_ok-prepared.prepared.reply ≡ reply side c.self.inside.desk call = ap (λ (p : Prepared). p.reply) c.in_ok-prepared.ensures.value in
    let full = c.in_default-reserve-2.ensures.full in
    let len = c.len-2.ensures in
    let more : 0 < length c.in-Ok.told.items = omega (arith, full, len) in
    let out = c.as_slice-out.ensures ∙ ap (λ (r : Reply). r.out) c.reply.ensures in
    let kept = subst (λ (packets : List Packet). 0 < length packets) (c.in-Ok.ensures.told ∙ ap (filter tells) out) more in
    (subst (λ (s : StationState). IsTrue (may_want side s.desk call)) c.self.view_is (lets_out_short side c.self.inside.desk call _ is (some_before tells _ kept)))

pub returns-in_err-prepared-clause-short : goal.returns-in_err-prepared-clause-short
returns-in_err-prepared-clause-short g c =
    let side = g.R.Role.SIDE in
    let call = c.args.call.now in
    let short : IsTrue (may_want side c.args.self.now.desk call) =
    subst (λ (s : StationState). IsTrue (may_want side s.desk call)) c.self.view_is (prepared-wants side c.self.inside.desk call c.in_err-prepared.ensures.short) in
    search (rules, short)

pub returns-in_default-make-clause-short : goal.returns-in_default-make-clause-short
returns-in_default-make-clause-short g c =
    let side = g.R.Role.SIDE in
    let call = c.args.call.now in
    subst (λ (s : StationState). IsTrue (may_want side s.desk call)) c.self.view_is
    (made-wants side c.self.inside.desk call c.in_ok-prepared.prepared c.in_ok-prepared.ensures.value c.in_default-make.ensures.short)

pub kept-requires : goal.kept-requires
kept-requires g c =
    let side = g.R.Role.SIDE in
    let call = c.args.call.now in
    let is : c.in_ok-prepared.prepared.reply ≡ reply side c.self.inside.desk call = ap (λ (p : Prepared). p.reply) c.in_ok-prepared.ensures.value in
    let out = c.as_slice-out.ensures ∙ ap (λ (r : Reply). r.out) (c.reply.ensures ∙ is) in
    subst (λ (packets : List Packet). All IsFromDesk packets) (sym out) (all_from_desk side c.self.inside.desk call c.reveal_invariant.ensures.legal c.reveal_invariant.ensures.fits)

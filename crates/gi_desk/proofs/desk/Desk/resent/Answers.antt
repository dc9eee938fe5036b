use Rattle.std.proofs.Common.{◌≡◌, ◌<◌, ◌≤◌, ℕ, List, length, true, sym, ap, subst, ◌∙◌, arith}
use Rattle.gi_desk.specs.History.{is_closing, is_meeting, number_of}
use Rattle.gi_desk.specs.Machine.{saved_out, some_leave}
use Rattle.gi_desk.specs.declared.packet.Packet.{Packet}
use Rattle.gi_desk.proofs.Called.{if_failed}
use Rattle.gi_desk.proofs.Leaving.{leave-last, leave-many}
use Rattle.gi_desk.proofs.LettingOut.{both_out}
use Rattle.gi_desk.proofs.StateLaws.{number_of-from}
use Rattle.gi_desk.proofs.desk.Desk.resent.Goals as goal

pub saved_out-requires : goal.saved_out-requires
saved_out-requires g c = subst (λ (n : ℕ). 1 ≤ n) (sym c.number_of_closing.ensures) (number_of-from (is_closing c.args.id.now) c.args.self.now.facts)

pub saved_out-requires-2 : goal.saved_out-requires-2
saved_out-requires-2 g c = subst (λ (n : ℕ). 1 ≤ n) (sym c.number_of_meeting.ensures) (number_of-from (is_meeting c.args.id.now) c.args.self.now.facts)

pub returns-in_err-later-clause-short : goal.returns-in_err-later-clause-short
returns-in_err-later-clause-short g c =
    let side = g.R.Role.SIDE in
    let s = c.args.self.now in
    let some = subst (λ (n : ℕ). some_leave (saved_out side s n) ≡ true) c.number_of_meeting.ensures c.in_err-later.ensures.short in
    if_failed c.from_residual-in_err-later.result (leave-last (saved_out side s (number_of (is_closing c.args.id.now) s.facts)) _ some)

pub returns-in_err-append-clause-short : goal.returns-in_err-append-clause-short
returns-in_err-append-clause-short g c =
    let side = g.R.Role.SIDE in
    let s = c.args.self.now in
    let full = c.in_err-append.ensures.full in
    let more : 0 < length c.in_ok-later.later.items = omega (arith, full) in
    let out = c.in_ok-later.ensures.value ∙ ap (saved_out side s) c.number_of_meeting.ensures in
    let some = subst (λ (packets : List Packet). some_leave packets ≡ true) out (leave-many c.in_ok-later.later.items more) in
    if_failed c.from_residual-in_err-append.result (leave-last (saved_out side s (number_of (is_closing c.args.id.now) s.facts)) _ some)

pub returns-clause-value : goal.returns-clause-value
returns-clause-value g c =
    both_out g.R.Role.SIDE c.args.self.now c.args.id.now c.number_of_closing.result c.number_of_meeting.result c.in_ok-packets.packets.items c.in_ok-later.later.items c.append.new.self.items
    c.number_of_closing.ensures c.number_of_meeting.ensures c.in_ok-packets.ensures.value c.in_ok-later.ensures.value c.in_ok-append.ensures.items

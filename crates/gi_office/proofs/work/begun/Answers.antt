use Rattle.std.proofs.Common.{◌≡◌, ◌+◌, ◌++◌, ◌∷◌, length, option_to_list, ap, ◌∙◌, sym, arith}
use Rattle.std.specs.Vec.Iter.{into_iter_items, into_iter_len}
use Rattle.std.proofs.lemmas.List.{length_push}
use Rattle.std.proofs.lemmas.List.Elements.{All-push}
use Rattle.gi_office.specs.Working.{IsReady}
use Rattle.gi_office.specs.Serving.{SessionState}
use Rattle.gi_office.proofs.Sessions.{one-begun, roomed}
use Rattle.gi_office.proofs.work.begun.Goals as goal

pub loop-session-preserved : goal.loop-session-preserved
loop-session-preserved g c =
    let at = c.loop-session in
    let session = c.in-Some.session in
    let rest = into_iter_items c.next.new.self in
    let others = into_iter_items c.next-in-loop-session.new.self in
    let first : into_iter_items at.session-iterator ≡ session ∷ rest = c.in-Some.ensures.steps.0 in
    let fewer : into_iter_len c.next.new.self + 1 ≡ into_iter_len at.session-iterator = c.in-Some.ensures.steps.1 in
    let second : into_iter_items at.rooms ≡ c.unwrap-receipts.result ∷ others =
    c.next-in-loop-session.ensures.items ∙ ap (λ r. option_to_list r ++ others) c.unwrap-receipts.ensures in
    let gone : into_iter_len c.next-in-loop-session.new.self + 1 ≡ into_iter_len at.rooms =
    ap (λ r. into_iter_len c.next-in-loop-session.new.self + length (option_to_list r)) (sym c.unwrap-receipts.ensures) ∙ c.next-in-loop-session.ensures.len in
    let room = roomed session (into_iter_items at.session-iterator) rest c.unwrap-receipts.result (into_iter_items at.rooms) others first second at.invariant.rooms in
    let receipts : c.new.result.receipts ≡ c.unwrap-receipts.result = c.new.ensures.receipts in
    let bodies : c.new.result.bodies.items ≡ session.bodies = ap (λ (s : SessionState). s.bodies) c.new.ensures.session in
    let ready : IsReady c.new.result = (rw receipts room.0, rw (bodies, receipts) room.1) in
    let pushed = c.push_reserved.ensures.items in
    let long = ap length pushed ∙ length_push at.works.items c.new.result in
    let short = ap length first in
    let short_rooms = ap length second in
    let capacity = c.push_reserved.ensures.capacity in
    record {
      rooms = room.2;
      sessions = one-begun at.works.items c.push_reserved.new.self.items c.new.result session (into_iter_items at.session-iterator) rest c.args.sessions.items pushed c.new.ensures.session first at.invariant.sessions;
      ready = rw pushed (All-push IsReady at.works.items c.new.result at.invariant.ready ready);
      room = omega (arith, long, short, capacity, at.invariant.room);
      left = omega (arith, fewer, short, at.invariant.left);
      left_rooms = omega (arith, gone, short_rooms, at.invariant.left_rooms);
    }

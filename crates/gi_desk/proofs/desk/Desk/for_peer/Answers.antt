use Rattle.std.proofs.Common.{◌≡◌, ◌∙◌, List, None, ap, subst}
use Rattle.std.specs.Prelude.{IfErr, IfOk, IsTrue, is_some}
use Rattle.gi_desk.specs.LetOut.{IsFact, let_out_on_closing, sent}
use Rattle.gi_desk.specs.Machine.{DeskState, bad_fact, some_leave}
use Rattle.gi_desk.specs.Messages.{on_met}
use Rattle.gi_desk.specs.declared.packet.Packet.{Packet}
use Rattle.gi_desk.proofs.LettingOut.{closing_for_peer, fact_closes, fact_meets, meeting_for_peer, other_for_peer}
use Rattle.gi_desk.proofs.desk.Desk.for_peer.Goals as goal

pub closed_state-requires : goal.closed_state-requires
closed_state-requires g c =
    let is = subst (IsFact c.args.self.now.facts c.args.n) c.in-Closed.is c.numbered.ensures in
    fact_closes c.args.self.now.facts c.args.n c.in-Closed.id c.in-Closed.rule is

pub matched-requires-clause-closed : goal.matched-requires-clause-closed
matched-requires-clause-closed g c =
    let legal = subst (λ (s : DeskState). bad_fact g.R.Role.SIDE s.point s.facts ≡ None) c.self.view_is c.self.invariant.keeps.stages.legal in
    let is = subst (IsFact c.args.self.now.facts c.args.n) c.in-Met.is c.numbered.ensures in
    (fact_meets g.R.Role.SIDE c.args.self.now.point c.args.self.now.facts c.args.n c.in-Met.id c.in-Met.peer legal is).0

pub matched-requires-clause-met : goal.matched-requires-clause-met
matched-requires-clause-met g c =
    let legal = subst (λ (s : DeskState). bad_fact g.R.Role.SIDE s.point s.facts ≡ None) c.self.view_is c.self.invariant.keeps.stages.legal in
    let is = subst (IsFact c.args.self.now.facts c.args.n) c.in-Met.is c.numbered.ensures in
    ap is_some (fact_meets g.R.Role.SIDE c.args.self.now.point c.args.self.now.facts c.args.n c.in-Met.id c.in-Met.peer legal is).1

pub returns-in-Closed-clause-value : goal.returns-in-Closed-clause-value
returns-in-Closed-clause-value g c =
    let is = subst (IsFact c.args.self.now.facts c.args.n) c.in-Closed.is c.numbered.ensures in
    let point = ap (λ (s : DeskState). s.point) c.self.view_is in
    let out = closing_for_peer g.R.Role.SIDE c.args.self.now.point c.args.self.now.facts c.args.n c.in-Closed.id c.in-Closed.rule is in
    subst (λ (packets : List Packet). IfOk c.on_closing.result (λ list. list.items ≡ packets)) ((λ t. let_out_on_closing g.R.Role.SIDE (point t) (c.closed_state.ensures t)) ∙ out) c.on_closing.ensures.value

pub returns-in-Closed-clause-short : goal.returns-in-Closed-clause-short
returns-in-Closed-clause-short g c =
    let is = subst (IsFact c.args.self.now.facts c.args.n) c.in-Closed.is c.numbered.ensures in
    let point = ap (λ (s : DeskState). s.point) c.self.view_is in
    let out = closing_for_peer g.R.Role.SIDE c.args.self.now.point c.args.self.now.facts c.args.n c.in-Closed.id c.in-Closed.rule is in
    subst (λ (packets : List Packet). IfErr c.on_closing.result (λ x. IsTrue (some_leave packets))) ((λ t. let_out_on_closing g.R.Role.SIDE (point t) (c.closed_state.ensures t)) ∙ out) c.on_closing.ensures.short

pub returns-in-Met-clause-value : goal.returns-in-Met-clause-value
returns-in-Met-clause-value g c =
    let legal = subst (λ (s : DeskState). bad_fact g.R.Role.SIDE s.point s.facts ≡ None) c.self.view_is c.self.invariant.keeps.stages.legal in
    let is = subst (IsFact c.args.self.now.facts c.args.n) c.in-Met.is c.numbered.ensures in
    let out = meeting_for_peer g.R.Role.SIDE c.args.self.now.point c.args.self.now.facts c.args.n c.in-Met.id c.in-Met.peer c.matched.result.now legal is c.matched.ensures in
    subst (λ (packets : List Packet). IfOk c.on_meeting.result (λ list. list.items ≡ packets)) (ap (λ (s : DeskState). sent (on_met g.R.Role.SIDE s.point c.matched.result.now)) c.self.view_is ∙ out) c.on_meeting.ensures.value

pub returns-in-Met-clause-short : goal.returns-in-Met-clause-short
returns-in-Met-clause-short g c =
    let legal = subst (λ (s : DeskState). bad_fact g.R.Role.SIDE s.point s.facts ≡ None) c.self.view_is c.self.invariant.keeps.stages.legal in
    let is = subst (IsFact c.args.self.now.facts c.args.n) c.in-Met.is c.numbered.ensures in
    let out = meeting_for_peer g.R.Role.SIDE c.args.self.now.point c.args.self.now.facts c.args.n c.in-Met.id c.in-Met.peer c.matched.result.now legal is c.matched.ensures in
    subst (λ (packets : List Packet). IfErr c.on_meeting.result (λ x. IsTrue (some_leave packets))) (ap (λ (s : DeskState). sent (on_met g.R.Role.SIDE s.point c.matched.result.now)) c.self.view_is ∙ out) c.on_meeting.ensures.short

pub returns-in_default-clause-value : goal.returns-in_default-clause-value
returns-in_default-clause-value g c =
    c.new.ensures.items ∙ other_for_peer g.R.Role.SIDE c.args.self.now.point c.args.self.now.facts c.args.n c.numbered.result.now c.numbered.ensures c.in_default.not-Closed c.in_default.not-Met

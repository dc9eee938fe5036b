use Rattle.std.proofs.Common.{rules, ◌≡◌, ◌+◌, ◌∷◌, ℕ, length, ap, ◌∙◌, sym, subst, Err}
use Rattle.std.specs.Vec.Iter.{into_iter_items}
use Rattle.gi_office.specs.Serving.{Submits}
use Rattle.gi_office.proofs.Sessions.{finished, stopped}
use Rattle.gi_office.proofs.office.Office.submit_all.Goals as goal

pub returns-in-Err : goal.returns-in-Err
returns-in-Err g c =
    let at = c.loop-body in
    let side = g.R.Role.SIDE in
    let may_go = g.G.Gate.may_go c.args.gate.now c.args.number in
    let may_end = g.G.Gate.may_end c.args.gate.now c.args.number in
    let body = c.in-Some.body in
    let rest = into_iter_items c.next.new.self in
    let steps : into_iter_items at.body-iterator ≡ body ∷ rest = c.in-Some.ensures.steps.0 in
    let count : c.len.result ≡ length at.receipts.items = search rules in
    let told : Submits side (may_go (c.len.result + 1)) (may_end (c.len.result + 1)) at.seat body (Err c.in-Err.end) c.submit_next.new.seat = c.in-Err.ensures in
    stopped side may_go may_end c.args.seat.now at.seat c.submit_next.new.seat body c.args.bodies.items rest at.receipts.items c.in-Err.end
    (λ more e h. at.invariant.submitted more e (rw steps h)) (ap (λ n. length at.receipts.items + n) (ap length (sym steps)) ∙ at.invariant.counted)
    at.invariant.let_go
    (subst (λ (n : ℕ). Submits side (may_go (n + 1)) (may_end (n + 1)) at.seat body (Err c.in-Err.end) c.submit_next.new.seat) count told)

pub returns : goal.returns
returns g c =
    let at = c.loop-body in
    let rest = into_iter_items at.body-iterator in
    finished g.R.Role.SIDE (g.G.Gate.may_go c.args.gate.now c.args.number) (g.G.Gate.may_end c.args.gate.now c.args.number) c.args.seat.now at.seat c.args.bodies.items rest at.receipts.items at.invariant.submitted at.invariant.counted
    (sym at.invariant.left ∙ c.in-None.ensures.steps.0) at.invariant.let_go

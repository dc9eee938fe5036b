use Rattle.std.proofs.Common.{sym, subst, ap, ◌∙◌}
use Rattle.gi_desk.specs.Caches.{CanFollow}
use Rattle.gi_desk.specs.Machine.{after, next_of}
use Rattle.gi_desk.specs.declared.prepared.Prepared.{Prepared}
use Rattle.gi_desk.proofs.Outcomes.{can_follow}
use Rattle.gi_desk.proofs.desk.Desk.make.Goals as goal

pub returns-clause-next : goal.returns-clause-next
unfolding after
returns-clause-next g c = λ call is. c.in_ok-apply.ensures.next ∙ ap (λ (p : Prepared). next_of c.args.self.now p.outcome) is

pub apply-requires : goal.apply-requires
apply-requires g c =
    let side = g.R.Role.SIDE in
    subst (CanFollow side c.args.self.now) (sym (ap (λ (p : Prepared). p.outcome) c.requires.1)) (can_follow side c.args.self.now c.requires.0)

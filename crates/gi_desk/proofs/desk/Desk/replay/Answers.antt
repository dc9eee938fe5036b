use Rattle.std.proofs.Common.{◌≡◌, ◌++◌, [], ◌∷◌, List, length, append_assoc, append-nil, true, false, None, Err, ap, refl, sym, subst, ◌∙◌, arith, rules}
use Rattle.std.specs.Vec.Iter.{into_iter_items}
use Rattle.gi_desk.specs.Machine.{DeskState, bad_fact, kept_after, may_follow}
use Rattle.gi_parts.specs.declared.kept_parts.KeptPart.{KeptPart}
use Rattle.gi_facts.specs.declared.fact.Fact.{Fact}
use Rattle.gi_desk.proofs.Legality.{legal-few}
use Rattle.gi_desk.proofs.Replaying.{begins_so, followed, kept_none, nothing_left, refused_as, refused_so}
use Rattle.gi_desk.proofs.desk.Desk.replay.Goals as goal

pub loop-fact-preserved : goal.loop-fact-preserved
loop-fact-preserved g c =
    let at = c.loop-fact in
    let x = c.in-Some.fact in
    let side = g.R.Role.SIDE in
    let steps : into_iter_items at.fact-iterator ≡ x ∷ into_iter_items c.next.new.self = c.in-Some.ensures.steps.0 in
    let may : may_follow side at.desk.point at.desk.facts x ≡ true = c.in-Ok.ensures.may in
    let next : c.record_again.new.self ≡ record at.desk { facts = at.desk.facts ++ x ∷ []; kept = kept_after x at.desk.kept } = c.in-Ok.ensures.next in (
      append_assoc at.yielded (x ∷ []) _ ∙ rw (← steps) at.invariant.0,
      next ∙ ap (λ (s : DeskState). record s { facts = s.facts ++ x ∷ []; kept = kept_after x s.kept }) at.invariant.1
          ∙ ap (λ (kept : List KeptPart). record { point = c.args.point; facts = at.yielded ++ x ∷ []; saved = 0; halted = false; kept = kept }) (kept_none x),
      followed side c.args.point at.yielded at.desk x at.invariant.2 (ap (λ (s : DeskState). s.point) at.invariant.1) (ap (λ (s : DeskState). s.facts) at.invariant.1) may,
      let was = at.invariant.3 in
          let gone = c.in-Some.ensures.steps.1 in
          let short = ap length steps in
          omega arith,
    )

pub returns-in-Err : goal.returns-in-Err
returns-in-Err g c =
    let at = c.loop-fact in
    let x = c.in-Some.fact in
    let side = g.R.Role.SIDE in
    let steps : into_iter_items at.fact-iterator ≡ x ∷ into_iter_items c.next.new.self = c.in-Some.ensures.steps.0 in
    let all : at.yielded ++ x ∷ into_iter_items c.next.new.self ≡ c.args.facts.items = rw (← steps) at.invariant.0 ∙ c.into_iter-fact-iterator.ensures.into_iter_gives.0 in
    refused_as side c.args.point c.args.facts.items (Err c.in-Err.fault) c.in-Err.fault refl
    (λ n is. let refused = c.record_again.ensures.refused n (c.in-Err.is ∙ ap Err is) in
    refused_so side c.args.point at.yielded at.desk x (into_iter_items c.next.new.self) c.args.facts.items n at.invariant.2
    (ap (λ (s : DeskState). s.point) at.invariant.1) (ap (λ (s : DeskState). s.facts) at.invariant.1) refused.1 refused.0 all)
    (λ is. begins_so side c.args.point at.yielded at.desk x (into_iter_items c.next.new.self) c.args.facts.items at.invariant.2
    (ap (λ (s : DeskState). s.point) at.invariant.1) (ap (λ (s : DeskState). s.facts) at.invariant.1) (c.record_again.ensures.short (c.in-Err.is ∙ ap Err is)) all)

pub overflow_cast-desk : goal.overflow_cast-desk
overflow_cast-desk g c =
    let few = legal-few g.R.Role.SIDE c.desk.inside.point c.desk.inside.facts.items c.desk.invariant.keeps.stages.legal in
    grind (arith, few)

pub returns : goal.returns
returns g c =
    let at = c.loop-fact in
    let none = c.in-None.ensures.steps in
    let empty : into_iter_items at.fact-iterator ≡ [] = nothing_left _ (sym at.invariant.3 ∙ none.0) in
    let all : at.yielded ≡ c.args.facts.items = sym (append-nil at.yielded) ∙ rw empty at at.invariant.0 ∙ c.into_iter-fact-iterator.ensures.into_iter_gives.0 in
    let was = c.desk.view_is ∙ at.invariant.1 in
    let facts : c.desk.inside.facts.items ≡ c.args.facts.items = ap (λ (s : DeskState). s.facts) was ∙ all in
    let point : c.desk.inside.point ≡ c.args.point = ap (λ (s : DeskState). s.point) was in
    let halted : c.desk.inside.halted ≡ false = ap (λ (s : DeskState). s.halted) was in
    let kept : c.desk.inside.parts ≡ [] = ap (λ (s : DeskState). s.kept) was in
    let counted : c.len.result ≡ length c.desk.inside.facts.items = search rules in
    let saved : c.len.result ≡ length c.args.facts.items = counted ∙ ap length facts in
    (subst (λ (fs : List Fact). bad_fact g.R.Role.SIDE c.args.point fs ≡ None) all at.invariant.2, λ t. record { point = point t; facts = facts t; saved = saved t; halted = halted t; kept = kept t })

use Rattle.std.proofs.Common.{◌≡◌, [], ◌∷◌, ◌++◌, None, Some, length, length-append, ap, ◌∙◌, arith, rules}
use Rattle.std.proofs.lemmas.Grind.{common_steps}
use Rattle.gi_script.proofs.NameLemmas.{finds_move}
use Rattle.gi_script.proofs.MoveLemmas.{texts_push, no_move}
use Rattle.gi_script.proofs.plan.plan.Goals as goal

pub returns-in_default-move_named : goal.returns-in_default-move_named
returns-in_default-move_named c = λ moves says.
    no_move c.args.words c.loop-word.words c.loop-word.moves.items c.in-Some.word.now c.next.new.self c.loop-word.invariant.same c.in-Some.ensures
    (finds_move c.in-Some.word.now None c.in_default-move_named.ensures) moves says

pub loop-word-preserved : goal.loop-word-preserved
loop-word-preserved c =
    let before = c.loop-word.moves.items in
    let next = c.in-Some-move_named.next in
    let pushed : c.push.new.self.items ≡ before ++ next ∷ [] = search rules in
    let counted = ap length pushed ∙ length-append before (next ∷ []) in
    record {
      same = rw pushed (texts_push before next c.loop-word.words c.in-Some.word.now c.next.new.self c.args.words c.loop-word.invariant.same c.in-Some.ensures
          (finds_move c.in-Some.word.now (Some next) c.in-Some-move_named.ensures));
      few = grind (arith, common_steps, counted);
    }

use Rattle.std.proofs.Common.{◌≡◌, ◌+◌, ◌++◌, ◌∷◌, [], ap, length, subst, sym, take, ◌∙◌}
use Rattle.std.proofs.lemmas.List.{take_more}
use Rattle.gi_live.proofs.Closings.{Partly, close_if}
use Rattle.gi_live.proofs.closing.close_all.Goals as goal

pub loop-id-preserved : goal.loop-id-preserved
loop-id-preserved g c =
    let side = g.R.Role.SIDE in
    let ids = c.args.ids.now in
    let i = c.loop-id.id-index in
    let id = c.id-item.result in
    let whole : take (i + 1) ids ≡ take i ids ++ id ∷ [] = take_more ids i id c.loop-id-test.true ∙ ap (λ next. take i ids ++ next ∷ []) (sym c.id-item.is) in
    record {
      place = c.close-back.ensures.place ∙ c.loop-id.invariant.place;
      closed = subst (λ some. Partly side c.args.seat (length ids) some c.add-in-loop-id.new.cames.items c.close-back.result.0) (sym whole)
          (close_if side c.args.seat (length ids) (take i ids) c.loop-id.cames.items c.loop-id.seat id c.close-back.result.1 c.add-in-loop-id.new.cames.items c.close-back.result.0
          c.loop-id.invariant.closed c.close-back.ensures.came c.in_default-add.ensures.added c.in_default-add.ensures.ok);
    }

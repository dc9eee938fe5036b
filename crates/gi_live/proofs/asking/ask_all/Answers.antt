use Rattle.std.proofs.Common.{◌≡◌, ◌+◌, ◌++◌, ◌∷◌, [], ap, subst, sym, take, ◌∙◌}
use Rattle.std.proofs.lemmas.List.{take_more}
use Rattle.gi_live.specs.Coming.{ComeAll}
use Rattle.gi_live.proofs.Comings.{come_if}
use Rattle.gi_live.proofs.asking.ask_all.Goals as goal

pub loop-line-preserved : goal.loop-line-preserved
loop-line-preserved g c =
    let side = g.R.Role.SIDE in
    let lines = c.args.lines.now in
    let i = c.loop-line.line-index in
    let line = c.line-item.result in
    let whole : take (i + 1) lines ≡ take i lines ++ line ∷ [] =
    take_more lines i line c.loop-line-test.true ∙ ap (λ next. take i lines ++ next ∷ []) (sym c.line-item.is) in
    record {
      place = c.ask-back.ensures.place ∙ c.loop-line.invariant.place;
      came = subst (λ ls. ComeAll side c.args.seat ls c.add.new.cames.items c.ask-back.result.0) (sym whole)
          (come_if side c.args.seat (take i lines) c.loop-line.cames.items c.loop-line.seat line c.ask-back.result.1 c.add.new.cames.items c.ask-back.result.0
          c.loop-line.invariant.came c.ask-back.ensures.came c.in_default.ensures.added c.in_default.ensures.ok);
    }

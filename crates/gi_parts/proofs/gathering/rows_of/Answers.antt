use Rattle.std.proofs.Common.{arith, ◌≡◌, ◌<◌, ◌++◌, ◌∙◌, List, length, take, ap, subst, sym}
use Rattle.std.specs.List.{flat_map}
use Rattle.std.proofs.lemmas.List.{take_all}
use Rattle.gi_pairs.specs.declared.row.Row.{Row}
use Rattle.gi_parts.specs.Hours.{AreRowsFor}
use Rattle.gi_parts.specs.Walks.{rows_if}
use Rattle.gi_parts.specs.declared.kept_parts.KeptPart.{KeptPart}
use Rattle.gi_parts.proofs.GatheringLaws.{flat_more, for_at, more_fit, none_fit, rows_of_cycle}
use Rattle.gi_parts.proofs.gathering.rows_of.Goals as goal

pub loop-one-init : goal.loop-one-init
loop-one-init c = (c.new-rows.ensures.items, λ own are. subst (λ (rows : List Row). AreRowsFor own rows) (sym c.new-rows.ensures.items) (none_fit own))

pub loop-one-preserved : goal.loop-one-preserved
loop-one-preserved c =
    let at = c.loop-one in
    let kept = c.args.kept.now in
    let one = c.one-item.result in
    let below : at.one-index < length kept = omega arith in (
      c.in_ok-add_if.ensures.rows ∙ ap (λ (rows : List Row). rows ++ rows_if c.args.array c.args.id.now one) at.invariant.0
          ∙ sym (flat_more (rows_if c.args.array c.args.id.now) kept at.one-index one below c.one-item.is),
      λ own are. c.in_ok-add_if.ensures.fit own (for_at c.args.id.now own kept at.one-index one below c.one-item.is are) (at.invariant.1 own are),
    )

pub returns-clause-rows : goal.returns-clause-rows
returns-clause-rows c =
    let at = c.loop-one in
    let kept = c.args.kept.now in
    let full : take at.one-index kept ≡ kept = take_all at.one-index kept (omega arith) in
    c.in_ok-add_rows.ensures
    ∙ (λ t. (at.invariant.0 ∙ ap (λ (ones : List KeptPart). flat_map (rows_if c.args.array c.args.id.now) ones) full ∙ rows_of_cycle c.args.array c.args.id.now kept) t
    ++ c.rows.ensures.rows t)

pub returns-clause-fit : goal.returns-clause-fit
returns-clause-fit c = λ own are for.
    more_fit own c.loop-one.rows.items c.rows.result.now _ c.in_ok-add_rows.ensures (c.loop-one.invariant.1 own are) (c.rows.ensures.fit own for)

use Rattle.std.proofs.Common.{◌≡◌, ◌==◌, length, true, arith, refl}
use Rattle.std.proofs.lemmas.Bool.Decides.{nat_tests}
use Rattle.std.proofs.lemmas.List.Elements.{All-more}
use Rattle.std.proofs.lemmas.List.Folds.{list_all_more}
use Rattle.gi_pairs.specs.Row.{IsRow}
use Rattle.gi_pairs.specs.declared.row.Row.{Row}
use Rattle.gi_pairs.proofs.table.have_hours.Goals as goal

pub loop-row-preserved : goal.loop-row-preserved
loop-row-preserved c =
    let row = c.row-item.result in
    let more = list_all_more (λ (r : Row). length r.hours == c.args.hours) c.args.rows.now c.loop-row.row-index row c.loop-row-test.true in
    let same : (length row.hours == c.args.hours) ≡ true = grind (arith, nat_tests, c.as_slice.ensures.value, c.if-as_slice-hours.false) in
    record {
      lengths = rw (more, ← c.row-item.is, c.loop-row.invariant.lengths, same) refl;
      known = All-more IsRow c.args.rows.now c.loop-row.row-index row c.loop-row-test.true c.loop-row.invariant.known (rw (← c.row-item.is) c.reveal_invariant.ensures);
    }

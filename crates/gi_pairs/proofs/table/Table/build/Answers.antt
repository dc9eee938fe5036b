use Rattle.std.proofs.Common.{◌≡◌, List, nat_lt, length, true, false, Ok, All, sym, ap, subst, ◌∙◌, arith}
use Rattle.std.proofs.lemmas.Bool.Decides.{nat_tests}
use Rattle.std.specs.List.Sorted.{IsPermutation}
use Rattle.gi_pairs.specs.Table.{IsTable, in_order}
use Rattle.gi_pairs.specs.TableRepr.{contents}
use Rattle.gi_pairs.specs.Row.{IsRow}
use Rattle.gi_pairs.specs.declared.row.Row.{Row}
use Rattle.gi_pairs.specs.Limits.{most_rows}
use Rattle.gi_pairs.proofs.Refusals.{whole_from, accepted, refused_hours, refused_count, refused_lengths, refused_twins}
use Rattle.gi_pairs.proofs.TableLaws.{built-is_table, in_order-permutation}
use Rattle.gi_pairs.proofs.table.Table.build.Goals as goal

pub returns-then-not-is_hour_range-clause-exact : goal.returns-then-not-is_hour_range-clause-exact
returns-then-not-is_hour_range-clause-exact c = refused_hours c.args.first c.args.last c.args.rows.items (sym c.if-not-is_hour_range.ensures)

pub returns-then-len-gt-MOST_ROWS-clause-exact : goal.returns-then-len-gt-MOST_ROWS-clause-exact
returns-then-len-gt-MOST_ROWS-clause-exact c =
    let many : nat_lt most_rows (length c.args.rows.items) ≡ true = grind (arith, nat_tests, c.len.ensures, c.if-len-gt-MOST_ROWS.true) in
    refused_count c.args.first c.args.last c.args.rows.items (sym c.if-not-is_hour_range.ensures) many

pub returns-then-not-have_hours-clause-exact : goal.returns-then-not-have_hours-clause-exact
returns-then-not-have_hours-clause-exact c =
    let few : nat_lt most_rows (length c.args.rows.items) ≡ false = grind (arith, nat_tests, c.len.ensures, c.if-len-gt-MOST_ROWS.false) in
    let hours = sym c.if-not-is_hour_range.ensures in
    let not_whole = whole_from c.args.first c.args.last c.from.result c.deref.result.now c.args.rows.items false hours c.from.ensures c.deref.ensures.value c.if-not-have_hours.ensures.lengths in
    refused_lengths c.args.first c.args.last c.args.rows.items hours few not_whole

pub returns-in-None-clause-exact : goal.returns-in-None-clause-exact
returns-in-None-clause-exact c =
    let few : nat_lt most_rows (length c.args.rows.items) ≡ false = grind (arith, nat_tests, c.len.ensures, c.if-len-gt-MOST_ROWS.false) in
    let hours = sym c.if-not-is_hour_range.ensures in
    let whole = whole_from c.args.first c.args.last c.from.result c.deref.result.now c.args.rows.items true hours c.from.ensures c.deref.ensures.value c.if-not-have_hours.ensures.lengths in
    refused_twins c.args.first c.args.last c.args.rows.items hours few whole c.in-None.ensures

pub returns-in-Some-clause-exact : goal.returns-in-Some-clause-exact
returns-in-Some-clause-exact c =
    let few : nat_lt most_rows (length c.args.rows.items) ≡ false = grind (arith, nat_tests, c.len.ensures, c.if-len-gt-MOST_ROWS.false) in
    let hours = sym c.if-not-is_hour_range.ensures in
    let whole = whole_from c.args.first c.args.last c.from.result c.deref.result.now c.args.rows.items true hours c.from.ensures c.deref.ensures.value c.if-not-have_hours.ensures.lengths in
    let same : contents (record { first = c.args.first; last = c.args.last; rows = c.in-Some.rows }) ≡ record { first = c.args.first; last = c.args.last; rows = in_order c.args.rows.items } =
    λ i. record { first = c.args.first; last = c.args.last; rows = c.in-Some.ensures.1 i } in
    ap Ok same ∙ accepted c.args.first c.args.last c.args.rows.items hours few whole c.in-Some.ensures.0

pub returns-in-Some-clause-rows : goal.returns-in-Some-clause-rows
returns-in-Some-clause-rows c = subst (λ (rows : List Row). IsPermutation c.args.rows.items rows) (sym c.in-Some.ensures.1) (in_order-permutation c.args.rows.items)

pub invariant_of-result : goal.invariant_of-result
invariant_of-result c =
    let known = subst (λ (rows : List Row). All IsRow rows) c.deref.ensures.value c.if-not-have_hours.ensures.known in
    let few : nat_lt most_rows (length c.args.rows.items) ≡ false = grind (arith, nat_tests, c.len.ensures, c.if-len-gt-MOST_ROWS.false) in
    let hours = sym c.if-not-is_hour_range.ensures in
    let whole = whole_from c.args.first c.args.last c.from.result c.deref.result.now c.args.rows.items true hours c.from.ensures c.deref.ensures.value c.if-not-have_hours.ensures.lengths in
    let same : contents (record { first = c.args.first; last = c.args.last; rows = c.in-Some.rows }) ≡ record { first = c.args.first; last = c.args.last; rows = in_order c.args.rows.items } =
    λ i. record { first = c.args.first; last = c.args.last; rows = c.in-Some.ensures.1 i } in
    subst IsTable (sym same) (built-is_table c.args.first c.args.last c.args.rows.items (record { first = c.args.first; last = c.args.last; rows = in_order c.args.rows.items }) known
    (sym (accepted c.args.first c.args.last c.args.rows.items hours few whole c.in-Some.ensures.0)))

pub returns-in-Some-clause-table : goal.returns-in-Some-clause-table
returns-in-Some-clause-table c = invariant_of-result c

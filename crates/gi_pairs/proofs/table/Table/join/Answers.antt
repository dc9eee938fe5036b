use Rattle.std.proofs.Common.{◌≡◌, ◌≤◌, nat_lt, length, true, false, Ok, sym, ap, subst, ◌∙◌, arith}
use Rattle.std.proofs.lemmas.Bool.Decides.{nat_tests}
use Rattle.gi_pairs.specs.Table.{IsTable, in_order}
use Rattle.gi_pairs.specs.TableRepr.{contents}
use Rattle.gi_pairs.proofs.Joining.{is_joined, joined_twins, joined_many, joined_table}
use Rattle.gi_pairs.proofs.table.Table.join.Goals as goal

pub returns-in-None-clause-exact : goal.returns-in-None-clause-exact
returns-in-None-clause-exact c = joined_twins c.args.first c.args.last c.args.most c.args.rows.items c.in-None.ensures

pub returns-in-Some-2-clause-exact : goal.returns-in-Some-2-clause-exact
returns-in-Some-2-clause-exact c =
    let many : nat_lt c.args.most (length c.args.rows.items) ≡ true = grind (arith, nat_tests, c.len.ensures, c.if-are_few.false) in
    joined_many c.args.first c.args.last c.args.most c.args.rows.items c.in-Some.ensures.0 many

pub returns-in-Some-clause-exact : goal.returns-in-Some-clause-exact
returns-in-Some-clause-exact c =
    let few : nat_lt c.args.most (length c.args.rows.items) ≡ false = grind (arith, nat_tests, c.len.ensures, c.if-are_few.true) in
    let same : contents (record { first = c.args.first; last = c.args.last; rows = c.in-Some.rows }) ≡ record { first = c.args.first; last = c.args.last; rows = in_order c.args.rows.items } =
    λ i. record { first = c.args.first; last = c.args.last; rows = c.in-Some.ensures.1 i } in
    ap Ok same ∙ joined_table c.args.first c.args.last c.args.most c.args.rows.items c.in-Some.ensures.0 few

pub invariant_of-result : goal.invariant_of-result
invariant_of-result c =
    let few : length c.args.rows.items ≤ c.args.most = omega (arith, c.len.ensures, c.if-are_few.true) in
    let same : contents (record { first = c.args.first; last = c.args.last; rows = c.in-Some.rows }) ≡ record { first = c.args.first; last = c.args.last; rows = in_order c.args.rows.items } =
    λ i. record { first = c.args.first; last = c.args.last; rows = c.in-Some.ensures.1 i } in
    subst IsTable (sym same) (is_joined c.args.first c.args.last c.args.most c.args.rows.items c.requires.begins c.requires.ordered c.requires.ends c.requires.rows c.requires.whole c.requires.limit c.in-Some.ensures.0 few)

pub returns-in-Some-clause-table : goal.returns-in-Some-clause-table
returns-in-Some-clause-table c = invariant_of-result c

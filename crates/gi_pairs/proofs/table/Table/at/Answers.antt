use Rattle.std.proofs.Common.{◌≡◌, ◌&&◌, ◌-◌, ◌<◌, nat_le, true, false, length, Some, None, arith, sym, ap, ◌∙◌, find, slice_index}
use Rattle.std.proofs.lemmas.Bool.Decides.{nat_tests}
use Rattle.std.proofs.lemmas.List.{get_or_default}
use Rattle.gi_pairs.specs.Table.{TableContents, is_at, reading}
use Rattle.gi_pairs.specs.TableRepr.{contents}
use Rattle.gi_pairs.proofs.Reading.{in_row, reading-found, reading-missed, reading-outside}
use Rattle.gi_pairs.proofs.table.Table.at.Goals as goal
use Rattle.gi_pairs.proofs.table.Table.at.Goals.{then-hour-self-via-then-hour-self, then-hour-self-via-else-hour-self+then-self-hour}

pub bounds-as_slice-from : goal.bounds-as_slice-from
bounds-as_slice-from c =
    let t = contents c.self.inside in
    let found : find (is_at (record { pair = c.args.pair; direction = c.args.direction })) t.rows ≡ Some c.in-Some.row.now = ap (find (is_at (record { pair = c.args.pair; direction = c.args.direction }))) (sym c.as_slice.ensures) ∙ sym c.in-Some.ensures in
    in_row (contents c.self.inside) c.args.pair c.args.direction c.args.hour c.in-Some.row.now c.as_slice-in-Some.result.now c.from.result c.self.invariant found c.as_slice-in-Some.ensures.value c.from.ensures c.if-hour-self.false c.if-self-hour.false

pub returns-in-Some-clause-value : goal.returns-in-Some-clause-value
returns-in-Some-clause-value c =
    let t = contents c.self.inside in
    let found : find (is_at (record { pair = c.args.pair; direction = c.args.direction })) t.rows ≡ Some c.in-Some.row.now = ap (find (is_at (record { pair = c.args.pair; direction = c.args.direction }))) (sym c.as_slice.ensures) ∙ sym c.in-Some.ensures in
    let covers : (nat_le t.first c.args.hour && nat_le c.args.hour t.last) ≡ true = grind (arith, nat_tests, c.if-hour-self.false, c.if-self-hour.false) in
    let read = reading-found t c.args.pair c.args.direction c.args.hour c.in-Some.row.now found covers in
    let here : c.from.result < length c.as_slice-in-Some.result.now = in_row (contents c.self.inside) c.args.pair c.args.direction c.args.hour c.in-Some.row.now c.as_slice-in-Some.result.now c.from.result c.self.invariant found c.as_slice-in-Some.ensures.value c.from.ensures c.if-hour-self.false c.if-self-hour.false in
    let same = get_or_default c.as_slice-in-Some.result.now c.from.result c.index-as_slice-from.result 0 here in
    let place : slice_index c.as_slice-in-Some.result.now c.from.result ≡ slice_index c.in-Some.row.now.hours (c.args.hour - t.first) = λ i. slice_index (c.as_slice-in-Some.ensures.value i) (c.from.ensures i) in
    c.value.ensures.value ∙ c.index-as_slice-from.is ∙ same ∙ place ∙ sym read ∙ ap (λ (u : TableContents). reading u c.args.pair c.args.direction c.args.hour) c.self.view_is

pub returns-in-None-clause-value : goal.returns-in-None-clause-value
returns-in-None-clause-value c =
    let t = contents c.self.inside in
    let missed : find (is_at (record { pair = c.args.pair; direction = c.args.direction })) t.rows ≡ None = ap (find (is_at (record { pair = c.args.pair; direction = c.args.direction }))) (sym c.as_slice.ensures) ∙ sym c.in-None.ensures in
    sym (ap (λ (u : TableContents). reading u c.args.pair c.args.direction c.args.hour) (sym c.self.view_is) ∙ reading-missed t c.args.pair c.args.direction c.args.hour missed)

pub returns-then-hour-self-clause-value : goal.returns-then-hour-self-clause-value
returns-then-hour-self-clause-value c =
    let t = contents c.self.inside in
    let outside : (nat_le t.first c.args.hour && nat_le c.args.hour t.last) ≡ false =
    elim c.then-hour-self.branch [ then-hour-self-via-then-hour-self w ↦ grind (arith, nat_tests, w.if-hour-self.true) | then-hour-self-via-else-hour-self+then-self-hour w ↦ grind (arith, nat_tests, w.if-self-hour.true) ] in
    sym (ap (λ (u : TableContents). reading u c.args.pair c.args.direction c.args.hour) (sym c.self.view_is) ∙ reading-outside t c.args.pair c.args.direction c.args.hour outside)

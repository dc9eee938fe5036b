use Rattle.std.proofs.Common.{◌≡◌, ◌<◌, ◌≤◌, ◌++◌, [], ◌∷◌, ◌∙◌, All, List, Vec, ℕ, Global, ap, arith, get_or, length, map, subst, sym, take}
use Rattle.std.specs.Borrow.{Bor}
use Rattle.std.proofs.lemmas.List.{append_assoc, get_or-map, length-map, map_more, take_all}
use Rattle.gi_pairs.specs.declared.row.Row.{Row}
use Rattle.gi_messages.specs.declared.nomination_line.NominationLine.{NominationLine}
use Rattle.gi_processing.specs.Processing.{group_row}
use Rattle.gi_processing.specs.Reduction.{referred}
use Rattle.gi_processing.proofs.PassLaws.{all_mapped}
use Rattle.gi_processing.proofs.RowLaws.{columns-long, row_is}
use Rattle.gi_processing.proofs.processing.add_group.Goals as goal

pub row_of-requires : goal.row_of-requires
row_of-requires c k d below =
    let items = λ (column : Vec ℕ Global). column.items in
    let lines = c.args.lines.now in
    let here : c.loop-place.place < length (referred lines) = omega (arith, c.loop-place-test.true, length-map lines (λ (line : Bor NominationLine). line.now)) in
    let are = ap (map items) c.deref.ensures.value ∙ c.in_ok-of_hours.ensures in
    all_mapped (λ (column : List ℕ). c.loop-place.place < length column) items c.deref.result.now k d below
    (subst (λ (of_hours : List (List ℕ)). All (λ (column : List ℕ). c.loop-place.place < length column) of_hours) (sym are)
    (columns-long c.args.contracts.now c.args.span.now c.args.portfolio c.args.direction (referred c.args.before.now) (referred lines) c.loop-place.place here))

pub loop-place-preserved : goal.loop-place-preserved
loop-place-preserved c =
    let items = λ (column : Vec ℕ Global). column.items in
    let now = λ (line : Bor NominationLine). line.now in
    let lines = c.args.lines.now in
    let place = c.loop-place.place in
    let item = c.index-lines-place.result in
    let row = group_row c.args.contracts.now c.args.span.now c.args.portfolio c.args.direction (referred c.args.before.now) (referred lines) in
    let here : place < length (referred lines) = omega (arith, c.loop-place-test.true, length-map lines now) in
    let there : place < length lines = omega (arith, here, length-map lines now) in
    let are = ap (map items) c.deref.ensures.value ∙ c.in_ok-of_hours.ensures in
    let is : get_or (referred lines) place item.now ≡ item.now = get_or-map now lines place item item.now there ∙ ap now (sym c.index-lines-place.is) in
    let made = c.in_ok-row_of.ensures
    ∙ row_is c.args.contracts.now c.args.span.now c.args.portfolio c.args.direction (referred c.args.before.now) (referred lines) (map items c.deref.result.now) place item.now are here is in
    let more = map_more row (referred lines) place item.now here ∙ (λ t. map row (take place (referred lines)) ++ row (is t) ∷ []) in
    c.in_ok-push.ensures.items ∙ (λ t. c.loop-place.invariant t ++ made t ∷ [])
    ∙ append_assoc c.args.rows.now.items (map row (take place (referred lines))) (row item.now ∷ []) ∙ ap (λ (rows : List Row). c.args.rows.now.items ++ rows) (sym more)

pub returns : goal.returns
returns c =
    let lines = c.args.lines.now in
    let row = group_row c.args.contracts.now c.args.span.now c.args.portfolio c.args.direction (referred c.args.before.now) (referred lines) in
    let over : length (referred lines) ≤ c.loop-place.place = omega (arith, c.loop-place-test.false, length-map lines (λ (line : Bor NominationLine). line.now)) in
    c.loop-place.invariant ∙ ap (λ (ls : List NominationLine). c.args.rows.now.items ++ map row ls) (take_all c.loop-place.place (referred lines) over)

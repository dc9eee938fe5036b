use Rattle.std.proofs.Common.{◌≡◌, ◌-◌, ◌∙◌, ap, arith, map, Vec, ℕ, Global}
use Rattle.std.proofs.lemmas.List.{map_push}
use Rattle.gi_processing.specs.Processing.{available_to}
use Rattle.gi_processing.specs.Reduction.{parts, referred, total}
use Rattle.gi_processing.proofs.RowLaws.{column_step}
use Rattle.gi_processing.proofs.processing.columns_of.Goals as goal

-- what those before leave of what is available
left_is : (c : goal.In_ok-push) → c.saturating_sub-left.result ≡ available_to c.args.contracts.now c.args.portfolio c.args.span.now.day c.args.direction c.loop-hour.hour - total (c.loop-hour.hour - 1) (referred c.args.before.now)
left_is c =
    let taken = c.total_of.ensures.value ∙ ap (λ n. total n (referred c.args.before.now)) c.from-index.ensures in
    c.saturating_sub-left.ensures ∙ (λ t. c.available-available.ensures.value t - taken t)

pub loop-hour-preserved : goal.loop-hour-preserved
loop-hour-preserved c =
    let span = c.args.span.now in
    let before = referred c.args.before.now in
    let lines = referred c.args.lines.now in
    let items = λ (column : Vec ℕ Global). column.items in
    column_step (λ hour. parts (available_to c.args.contracts.now c.args.portfolio span.day c.args.direction hour - total (hour - 1) before) (hour - 1) lines) span.first c.loop-hour.hour (map items c.loop-hour.of_hours.items)
    (map items c.push.new.self.items) c.in_ok-parts_in.field-0.items (omega (arith, c.loop-hour.auto.hour)) c.loop-hour.invariant
    (c.in_ok-parts_in.ensures ∙ (λ t. parts (left_is c t) (c.from-index.ensures t) lines))
    (ap (map items) c.in_ok-push.ensures.items ∙ map_push items c.loop-hour.of_hours.items c.in_ok-parts_in.field-0)

use Rattle.std.proofs.Common.{◌∙◌, sym}
use Rattle.gi_table_commands.proofs.ShapeLemmas.{SameShape-hours}
use Rattle.gi_table_commands.proofs.matching.same_shape.Goals as goal
use Rattle.gi_table_commands.proofs.matching.same_shape.Goals.{then-eq, else-eq, then-eq-2, else-eq-2}

pub returns-then-order-own : goal.returns-then-order-own
returns-then-order-own c =
    elim c.if-eq-2.branch [
      | then-eq-2 w ↦ elim c.if-eq.branch [
        | then-eq v ↦ SameShape-hours c.args.order.now c.args.own.now c.covers_same_hours.result
            (sym c.eq.ensures ∙ v.if-eq.true)
            (sym v.eq-then-eq.ensures ∙ sym v.value-is ∙ w.if-eq-2.true)
            (sym w.value-is ∙ c.if-order-own.true) c.covers_same_hours.ensures.shape
        | else-eq v ↦ let point = v.if-eq.false in let day = v.value-is in let both = w.if-eq-2.true in cc
      ]
      | else-eq-2 w ↦ let both = w.if-eq-2.false in let cycle = w.value-is in let all = c.if-order-own.true in cc
    ]

use Rattle.std.proofs.Common.{List, sym, ap, subst, ◌∙◌}
use Rattle.std.specs.List.Sorted.{IsStrictlySortedBy}
use Rattle.gi_pairs.specs.Key.{key_cmp}
use Rattle.gi_pairs.specs.Table.{keys_of, repeats}
use Rattle.gi_pairs.specs.declared.row.Row.{Row}
use Rattle.gi_pairs.proofs.Building.{in_order_is, repeats-permutation}
use Rattle.gi_pairs.proofs.table.ordered.Goals as goal

pub returns-then-has_twins : goal.returns-then-has_twins
returns-then-has_twins c =
    sym (repeats-permutation c.args.rows.items c.sort_rows.new.rows.items c.sort_rows.ensures.permutation)
    ∙ ap (λ (rows : List Row). repeats (keys_of rows)) (sym c.deref.ensures.value) ∙ sym c.if-has_twins.ensures.twins

pub returns : goal.returns
returns c =
    let strict = subst (λ (rows : List Row). IsStrictlySortedBy key_cmp (keys_of rows)) c.deref.ensures.value c.if-has_twins.ensures.ordered in (
      sym (repeats-permutation c.args.rows.items c.sort_rows.new.rows.items c.sort_rows.ensures.permutation)
          ∙ ap (λ (rows : List Row). repeats (keys_of rows)) (sym c.deref.ensures.value) ∙ sym c.if-has_twins.ensures.twins,
      c.new.ensures ∙ in_order_is c.args.rows.items c.sort_rows.new.rows.items c.sort_rows.ensures.permutation strict,
    )

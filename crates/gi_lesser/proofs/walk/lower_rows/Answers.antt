use Rattle.std.proofs.Common.{List, map, ◌≡◌, ◌++◌, ◌+◌, ◌≤◌, Bool, true, false, inl, inr, arith, rules, refl, ap, is_ge, is_le, if◌then◌else◌, drop, ◌∙◌}
use mir.Val.{bool_byte}
use Rattle.gi_lesser.specs.Walk.{alone, lesser_rows}
use Rattle.gi_pairs.specs.declared.row.Row.{Row}
use Rattle.gi_lesser.proofs.WalkLaws.{ended, turn}
use Rattle.gi_lesser.proofs.walk.lower_rows.Goals.{then-loop-i-test+else-j-theirs, else-loop-i-test}
use Rattle.gi_lesser.proofs.walk.lower_rows.Goals as goal

one_if : (b : Bool) → bool_byte b ≡ (if b then 1 else 0)
one_if true = refl
one_if false = refl

at_most_one : (b : Bool) → bool_byte b ≤ 1
at_most_one true = omega arith
at_most_one false = omega arith

pub loop-i-preserved : goal.loop-i-preserved
loop-i-preserved c =
    let ours = c.args.ours.now in
    let theirs = c.args.theirs.now in
    let i = c.from.ensures ∙ ap bool_byte c.is_le.ensures ∙ one_if (is_le c.cmp-order.result) in
    let j = c.from-in-loop-i.ensures ∙ ap bool_byte c.is_ge.ensures ∙ one_if (is_ge c.cmp-order.result) in
    let low = at_most_one c.is_le.result in
    let high = at_most_one c.is_ge.result in
    let next = turn ours theirs c.loop-i.i c.loop-i.j c.index-ours-i.result c.index-theirs-j.result c.in_ok-first_row.field-0 c.cmp-order.result c.loop-i.rows.items c.push.new.self.items
    c.requires.ours c.requires.theirs c.loop-i-test.true c.if-j-theirs.true c.index-ours-i.is c.index-theirs-j.is (search rules) c.in_ok-first_row.ensures c.loop-i.invariant.rows c.in_ok-push.ensures.items in
    record {
      ours = omega (arith, c.from.ensures, low, c.loop-i-test.true);
      theirs = omega (arith, c.from-in-loop-i.ensures, high, c.if-j-theirs.true);
      rows = (λ t. c.push.new.self.items ++ lesser_rows (drop (c.loop-i.i + i t) ours) (drop (c.loop-i.j + j t) theirs)) ∙ next;
    }

pub returns : goal.returns
returns c =
    ended c.args.ours.now c.args.theirs.now c.loop-i.i c.loop-i.j c.loop-i.rows.items c.add_alone.new.rows.items c.add_alone-2.new.rows.items c.requires.ours c.requires.theirs
    (elim c.loop-i-test.branch [ then-loop-i-test+else-j-theirs w ↦ inr w.if-j-theirs.false | else-loop-i-test w ↦ inl w.loop-i-test.false ]) c.loop-i.invariant.rows
    (c.in_ok-add_alone.ensures ∙ ap (λ (l : List Row). c.loop-i.rows.items ++ map alone l) c.split_at.ensures.back)
    (c.in_ok-add_alone-2.ensures ∙ ap (λ (l : List Row). c.add_alone.new.rows.items ++ map alone l) c.split_at-2.ensures.back)

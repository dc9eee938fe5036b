use Rattle.std.proofs.Common.{min, ap, ◌∙◌, rules, tests}
use Rattle.std.proofs.lemmas.Iterator.{YieldsList-from_map, YieldsList-from_slice, YieldsList-from_zip, items_from_collect}
use Rattle.gi_lesser.specs.Walk.{with_hours}
use Rattle.gi_lesser.proofs.walk.lower_row.Goals as goal

pub returns : goal.returns
returns c =
    let items = items_from_collect _ c.collect.ensures.ran
    (YieldsList-from_map _ (λ p. min p.0 p.1) (YieldsList-from_zip (YieldsList-from_slice c.args.our.now.hours cc) (YieldsList-from_slice c.args.their.now.hours cc)) c.map.ensures.closure (λ x r q k. search (rules, tests))) in
    let made = rw c.in_ok-lower.was at items in
    ap (with_hours c.args.our.now) (c.into.ensures ∙ made)

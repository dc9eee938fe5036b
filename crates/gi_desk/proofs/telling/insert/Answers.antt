use Rattle.std.proofs.Common.{rules, ◌≡◌, ◌<◌, length, false, true, sym, ◌∙◌}
use Rattle.std.specs.Cmp.Rules.{comparing}
use Rattle.std.specs.List.{position_or_len}
use Rattle.std.specs.Str.{bytes_eq}
use Rattle.std.proofs.lemmas.Iterator.{YieldsList-from_slice}
use Rattle.std.proofs.lemmas.Iterator.Search.{position_from_yields_List}
use Rattle.gi_desk.proofs.LettingOut.{found_place, is_not_above, with_code-before, with_code-last, with_code-there}
use Rattle.gi_desk.proofs.telling.insert.Goals as goal
use Rattle.gi_desk.proofs.telling.insert.Goals.{then-place-len-via-then-place-len, then-place-len-via-else-place-len+then-ne}

pub returns-else-ne : goal.returns-else-ne
returns-else-ne c =
    let code = c.args.code in
    let codes = c.args.codes.now.items in
    let found = position_from_yields_List (is_not_above code) _ _ c.position-place.result c.position-place.ensures.ran (YieldsList-from_slice codes (c.iter.ensures.rest ∙ c.deref.ensures.value)) (λ x b q k. search (comparing, rules)) in
    let place : c.unwrap_or-place.result ≡ position_or_len (is_not_above code) codes = found_place code codes c.position-place.result c.len.result c.unwrap_or-place.result found (search rules) c.unwrap_or-place.ensures in
    let below : c.unwrap_or-place.result < length codes = search rules in
    let same : bytes_eq code c.index.result.now ≡ true = search (comparing, rules, c.ne.ensures, c.if-ne.false) in
    sym (with_code-there code codes c.unwrap_or-place.result c.index.result.now place below c.index.ensures same)

pub returns-in_ok-insert : goal.returns-in_ok-insert
returns-in_ok-insert c =
    let code = c.args.code in
    let codes = c.args.codes.now.items in
    let found = position_from_yields_List (is_not_above code) _ _ c.position-place.result c.position-place.ensures.ran (YieldsList-from_slice codes (c.iter.ensures.rest ∙ c.deref.ensures.value)) (λ x b q k. search (comparing, rules)) in
    let place : c.unwrap_or-place.result ≡ position_or_len (is_not_above code) codes = found_place code codes c.position-place.result c.len.result c.unwrap_or-place.result found (search rules) c.unwrap_or-place.ensures in
    c.in_ok-insert.ensures.items ∙ elim c.then-place-len.branch [
      | then-place-len-via-then-place-len w ↦ sym (with_code-last code codes c.unwrap_or-place.result place (search rules))
      | then-place-len-via-else-place-len+then-ne w ↦
          let differs : bytes_eq code w.index.result.now ≡ false = search (comparing, rules, w.ne.ensures, w.if-ne.true) in
          sym (with_code-before code codes c.unwrap_or-place.result w.index.result.now place (search rules) w.index.ensures differs)
    ]

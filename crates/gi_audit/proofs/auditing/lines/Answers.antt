use Rattle.std.proofs.Common.{◌∙◌, List, ap, string_bytes, ◌++◌, ℕ}
use Rattle.gi_audit.proofs.LineLemmas.{agreed_more, first_more, lines_more}
use Rattle.gi_audit.proofs.auditing.lines.Goals as goal

pub loop-id-preserved : goal.loop-id-preserved
loop-id-preserved c =
    let s = c.args.initiating.now in
    let t = c.args.matching.now in
    let next = c.in_ok-push_str.ensures.bytes ∙ ap (λ (line : List ℕ). string_bytes c.loop-id.text ++ line) c.as_str.ensures.value in
    record {
      text =
          lines_more s t c.args.ids.now c.loop-id.id-index c.id-item.result c.found_at-found.result c.place_found-place.result (string_bytes c.loop-id.text) (string_bytes c.in_ok-line.line) (string_bytes c.push_str.new.self)
          c.loop-id-test.true c.id-item.is c.loop-id.invariant.text c.found_at-found.ensures c.place_found-place.ensures c.in_ok-line.ensures next;
      first =
          first_more s t c.args.ids.now c.loop-id.id-index c.id-item.result c.found_at-found.result c.loop-id.first c.differing.result c.or-first.result
          c.loop-id-test.true c.id-item.is c.loop-id.invariant.first c.found_at-found.ensures c.differing.ensures c.or-first.ensures;
      agreed =
          agreed_more s t c.args.ids.now c.loop-id.id-index c.id-item.result c.found_at-found.result c.loop-id.agreed c.or_agreed-agreed.result
          c.loop-id-test.true c.id-item.is c.loop-id.invariant.agreed c.found_at-found.ensures c.or_agreed-agreed.ensures;
    }

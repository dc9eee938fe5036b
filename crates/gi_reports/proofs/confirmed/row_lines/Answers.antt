use Rattle.std.proofs.Common.{◌≡◌, ◌<◌, ◌+◌, ◌++◌, ◌∙◌, ℕ, List, ap, get_or, length, string_bytes, subst}
use Rattle.std.proofs.lemmas.List.{get_or_read}
use Rattle.gi_reports.proofs.ConfirmedLemmas.{hour_more}
use Rattle.gi_reports.proofs.confirmed.row_lines.Goals as goal

pub loop-place-preserved : goal.loop-place-preserved
loop-place-preserved c =
    let hours = c.as_slice-hours.ensures.value in
    let place = c.loop-place.place in
    let below : place < length c.args.row.now.hours = subst (λ (l : List ℕ). place < length l) hours c.loop-place-test.true in
    let hour : c.from.result + place ≡ c.args.first + place = ap (λ n. n + place) c.from.ensures in
    let quantity = get_or_read c.as_slice-hours.result.now place c.index-hours-place.result c.loop-place-test.true c.index-hours-place.is 0 ∙ ap (λ (l : List ℕ). get_or l place 0) hours in
    hour_more c.args.id.now c.args.row.now c.args.first place (c.from.result + place) c.index-hours-place.result
    (string_bytes c.loop-place.text) (string_bytes c.in_ok-line.line) (string_bytes c.push_str.new.self)
    below hour quantity c.loop-place.invariant c.in_ok-line.ensures
    (c.in_ok-push_str.ensures.bytes ∙ ap (λ (line : List ℕ). string_bytes c.loop-place.text ++ line) c.as_str.ensures.value)

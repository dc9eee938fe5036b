use Rattle.std.proofs.Common.{◌≡◌, ◌<◌, ◌+◌, ◌∙◌, ℕ, List, ap, get_or, length, subst}
use Rattle.std.proofs.lemmas.List.{get_or_read}
use Rattle.gi_exports.proofs.ListingLemmas.{hour_more}
use Rattle.gi_exports.proofs.listing.add_row.Goals as goal

pub loop-place-preserved : goal.loop-place-preserved
loop-place-preserved c =
    let hours = c.as_slice-quantities.ensures.value in
    let place = c.loop-place.place in
    let below : place < length c.args.row.now.hours = subst (λ (l : List ℕ). place < length l) hours c.loop-place-test.true in
    let hour : c.from.result + place ≡ c.args.first + place = ap (λ n. n + place) c.from.ensures in
    let quantity = get_or_read c.as_slice-quantities.result.now place c.index-quantities-place.result c.loop-place-test.true c.index-quantities-place.is 0 ∙ ap (λ (l : List ℕ). get_or l place 0) hours in
    hour_more c.args.id.now c.args.row.now c.args.first place (c.from.result + place) c.index-quantities-place.result
    c.args.all.now.items c.loop-place.all.items c.push.new.self.items below hour quantity c.loop-place.invariant c.in_ok-push.ensures.items

use Rattle.std.proofs.Common.{◌≡◌, ℕ, List, [], ◌∷◌, ◌∙◌, OnOk, ap, subst}
use Rattle.std.specs.Fmt.{decimal}
use Rattle.gi_day.specs.Day.{day_text}
use Rattle.gi_pairs.specs.Direction.{direction_text}
use Rattle.gi_exports.specs.Csv.{record_text}
use Rattle.gi_exports.specs.Sheet.{AddsText}
use Rattle.gi_exports.proofs.csv_reports.put_hour.Goals as goal

pub returns : goal.returns
returns c =
    let entry = c.args.entry.now in
    let day : c.as_bytes.result.now ≡ day_text entry.id.day = c.as_bytes.ensures.value ∙ c.in_ok-day.ensures.ok in
    let cycle : c.as_bytes-2.result.now ≡ decimal entry.id.cycle = c.as_bytes-2.ensures.value ∙ c.in_ok-cycle.ensures.ok in
    let direction : c.as_bytes-3.result.now ≡ direction_text entry.direction = c.as_bytes-3.ensures.value ∙ c.as_str-direction.ensures in
    let initiating : c.as_bytes-4.result.now ≡ entry.pair.initiating = c.as_bytes-4.ensures.value ∙ c.as_str.ensures.value in
    let matching : c.as_bytes-5.result.now ≡ entry.pair.matching = c.as_bytes-5.ensures.value ∙ c.as_str-2.ensures.value in
    let hour : c.as_bytes-6.result.now ≡ decimal entry.hour = c.as_bytes-6.ensures.value ∙ c.in_ok-hour.ensures.ok in
    let quantity : c.as_bytes-7.result.now ≡ decimal entry.quantity = c.as_bytes-7.ensures.value ∙ c.in_ok-quantity.ensures.ok ∙ ap decimal c.value.ensures.value in
    subst (λ (fields : List (List ℕ)). OnOk c.put_record.result (AddsText c.args.out.now c.put_record.new.out (record_text fields)))
    (λ t. day t ∷ cycle t ∷ direction t ∷ initiating t ∷ matching t ∷ hour t ∷ quantity t ∷ []) c.put_record.ensures

use Rattle.std.proofs.Common.{◌≡◌, ℕ, List, [], ◌∷◌, ◌∙◌, OnOk, ap, subst}
use Rattle.std.specs.Fmt.{signed_decimal}
use Rattle.gi_day.specs.Day.{day_text}
use Rattle.gi_exports.specs.Csv.{record_text}
use Rattle.gi_schedule.specs.Csv.{code_field, number_field}
use Rattle.gi_schedule.specs.Lines.{flow_text, initiating_of, matching_of}
use Rattle.gi_exports.specs.Sheet.{AddsText}
use Rattle.gi_schedule.proofs.csv_report.put_line.Goals as goal

pub returns : goal.returns
returns c =
    let line = c.args.line.now in
    let day : c.as_bytes.result.now ≡ day_text line.day = c.as_bytes.ensures.value ∙ c.in_ok-day.ensures.ok in
    let cycle : c.as_bytes-2.result.now ≡ number_field line.cycle = c.as_bytes-2.ensures.value ∙ c.in_ok-cycle.ensures in
    let flow : c.as_bytes-3.result.now ≡ flow_text line.flow = c.as_bytes-3.ensures.value ∙ c.as_str-flow.ensures in
    let initiating : c.as_bytes-4.result.now ≡ code_field (initiating_of line) = c.as_bytes-4.ensures.value ∙ c.code_text.ensures ∙ ap code_field c.initiating-initiating.ensures in
    let matching : c.as_bytes-5.result.now ≡ code_field (matching_of line) = c.as_bytes-5.ensures.value ∙ c.code_text-2.ensures ∙ ap code_field c.matching-matching.ensures in
    let hour : c.as_bytes-6.result.now ≡ number_field line.hour = c.as_bytes-6.ensures.value ∙ c.in_ok-hour.ensures in
    let quantity : c.as_bytes-7.result.now ≡ signed_decimal line.quantity = c.as_bytes-7.ensures.value ∙ c.in_ok-quantity.ensures.ok in
    subst (λ (fields : List (List ℕ)). OnOk c.put_record.result (AddsText c.args.out.now c.put_record.new.out (record_text fields)))
    (λ t. day t ∷ cycle t ∷ flow t ∷ initiating t ∷ matching t ∷ hour t ∷ quantity t ∷ []) c.put_record.ensures

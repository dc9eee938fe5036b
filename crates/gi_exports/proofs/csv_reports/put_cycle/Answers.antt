use Rattle.std.proofs.Common.{◌≡◌, ℕ, List, [], ◌∷◌, ◌∙◌, OnOk, subst}
use Rattle.std.specs.Fmt.{decimal}
use Rattle.gi_day.specs.Day.{day_text}
use Rattle.gi_reports.specs.Open.{open_word}
use Rattle.gi_exports.specs.Csv.{record_text}
use Rattle.gi_exports.specs.Sheet.{AddsText}
use Rattle.gi_exports.proofs.csv_reports.put_cycle.Goals as goal

pub returns : goal.returns
returns c =
    let entry = c.args.entry.now in
    let day : c.as_bytes.result.now ≡ day_text entry.id.day = c.as_bytes.ensures.value ∙ c.in_ok-day.ensures.ok in
    let cycle : c.as_bytes-2.result.now ≡ decimal entry.id.cycle = c.as_bytes-2.ensures.value ∙ c.in_ok-cycle.ensures.ok in
    let state : c.as_bytes-3.result.now ≡ open_word entry.stage = c.as_bytes-3.ensures.value ∙ c.state_of-state.ensures in
    subst (λ (fields : List (List ℕ)). OnOk c.put_record.result (AddsText c.args.out.now c.put_record.new.out (record_text fields)))
    (λ t. day t ∷ cycle t ∷ state t ∷ []) c.put_record.ensures

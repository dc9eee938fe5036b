use Rattle.std.proofs.Common.{◌≡◌, ℕ, List, [], ◌∷◌, ◌∙◌, OnOk, subst}
use Rattle.std.specs.Fmt.{decimal}
use Rattle.gi_day.specs.Day.{day_text}
use Rattle.gi_pairs.specs.Direction.{direction_text}
use Rattle.gi_exports.specs.Csv.{record_text}
use Rattle.gi_schedule.specs.CutForms.{cut_word}
use Rattle.gi_exports.specs.Sheet.{AddsText}
use Rattle.gi_schedule.proofs.csv_cuts.put_cut.Goals as goal

pub returns : goal.returns
returns c =
    let line = c.args.line.now in
    let day : c.as_bytes.result.now ≡ day_text line.id.day = c.as_bytes.ensures.value ∙ c.in_ok-day.ensures.ok in
    let cycle : c.as_bytes-2.result.now ≡ decimal line.id.cycle = c.as_bytes-2.ensures.value ∙ c.in_ok-cycle.ensures.ok in
    let direction : c.as_bytes-3.result.now ≡ direction_text line.direction = c.as_bytes-3.ensures.value ∙ c.as_str-direction.ensures in
    let initiating : c.as_bytes-4.result.now ≡ line.pair.initiating = c.as_bytes-4.ensures.value ∙ c.as_str.ensures.value in
    let matching : c.as_bytes-5.result.now ≡ line.pair.matching = c.as_bytes-5.ensures.value ∙ c.as_str-2.ensures.value in
    let hour : c.as_bytes-6.result.now ≡ decimal line.hour = c.as_bytes-6.ensures.value ∙ c.in_ok-hour.ensures.ok in
    let nominated : c.as_bytes-7.result.now ≡ decimal line.nominated = c.as_bytes-7.ensures.value ∙ c.in_ok-nominated.ensures.ok in
    let processed : c.as_bytes-8.result.now ≡ decimal line.processed = c.as_bytes-8.ensures.value ∙ c.in_ok-processed.ensures.ok in
    let peer : c.as_bytes-9.result.now ≡ decimal line.peer = c.as_bytes-9.ensures.value ∙ c.in_ok-peer.ensures.ok in
    let confirmed : c.as_bytes-10.result.now ≡ decimal line.confirmed = c.as_bytes-10.ensures.value ∙ c.in_ok-confirmed.ensures.ok in
    let by_capacity : c.as_bytes-11.result.now ≡ decimal line.by_capacity = c.as_bytes-11.ensures.value ∙ c.in_ok-by_capacity.ensures.ok in
    let by_peer : c.as_bytes-12.result.now ≡ decimal line.by_peer = c.as_bytes-12.ensures.value ∙ c.in_ok-by_peer.ensures.ok in
    let word : c.as_bytes-13.result.now ≡ cut_word line = c.as_bytes-13.ensures.value ∙ c.word-word.ensures in
    subst (λ (fields : List (List ℕ)). OnOk c.put_record.result (AddsText c.args.out.now c.put_record.new.out (record_text fields)))
    (λ t. day t ∷ cycle t ∷ direction t ∷ initiating t ∷ matching t ∷ hour t ∷ nominated t ∷ processed t ∷ peer t ∷ confirmed t ∷ by_capacity t ∷ by_peer t ∷ word t ∷ []) c.put_record.ensures

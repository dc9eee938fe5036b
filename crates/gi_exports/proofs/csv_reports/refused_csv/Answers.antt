use Rattle.std.proofs.Common.{◌∙◌, ℕ, List, Option, ap}
use Rattle.std.proofs.lemmas.Result.{IfOk-weaker}
use Rattle.gi_exports.specs.Csv.{count_fields, refused_header, refused_text}
use Rattle.gi_exports.proofs.SheetLemmas.{record_more, records_all}
use Rattle.gi_exports.proofs.csv_reports.refused_csv.Goals as goal

pub loop-code-preserved : goal.loop-code-preserved
loop-code-preserved c =
    record_more refused_header count_fields c.deref-code-items.result.now c.loop-code.code-index c.loop-code-item.result c.loop-code-test.true c.loop-code-item.is c.loop-code.invariant
    c.in_ok-put_count.ensures

pub returns : goal.returns
returns c =
    let counts = c.deref-code-items.ensures.value ∙ c.in_ok-counts.ensures in
    IfOk-weaker c.finished.result _ _ (λ bytes is.
    is _ (records_all refused_header count_fields c.deref-code-items.result.now c.loop-code.code-index c.loop-code-test.false c.loop-code.invariant)
    ∙ ap (λ (l : List (Option (List ℕ) × ℕ)). refused_text l) counts)
    c.finished.ensures

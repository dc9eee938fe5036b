use Rattle.std.proofs.Common.{◌≡◌, ℕ, List, [], ◌∷◌, ◌∙◌, OnOk, subst}
use Rattle.std.specs.Fmt.{decimal}
use Rattle.gi_exports.specs.Csv.{portfolio_field, record_text}
use Rattle.gi_exports.specs.Sheet.{AddsText}
use Rattle.gi_exports.proofs.csv_reports.put_count.Goals as goal

pub returns : goal.returns
returns c =
    let portfolio : c.as_bytes.result.now ≡ portfolio_field c.args.code.now = c.as_bytes.ensures.value ∙ c.portfolio_text-portfolio.ensures in
    let count : c.as_bytes-2.result.now ≡ decimal c.args.count = c.as_bytes-2.ensures.value ∙ c.in_ok-count.ensures.ok in
    subst (λ (fields : List (List ℕ)). OnOk c.put_record.result (AddsText c.args.out.now c.put_record.new.out (record_text fields)))
    (λ t. portfolio t ∷ count t ∷ []) c.put_record.ensures

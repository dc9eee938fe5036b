use Rattle.std.proofs.Common.{◌≡◌, ◌∙◌, IfOk, rules, sym, ap, subst}
use Rattle.gi_pairs.specs.Table.{TableContents}
use Rattle.gi_pairs.specs.declared.side.Side.{Side}
use Rattle.gi_processing.specs.Processing.{HasFewOfEach, processed as processed_of}
use Rattle.gi_processing.proofs.ProcessingReadings.{reads-processed}
use Rattle.gi_desk.specs.History.{capacity_of, documents_of}
use Rattle.gi_desk.specs.Machine.{DeskState}
use Rattle.gi_desk.proofs.CacheLaws.{kept-sound}
use Rattle.gi_desk.proofs.desk.Desk.processed.Goals as goal

pub processed-requires-clause-sound : goal.processed-requires-clause-sound
processed-requires-clause-sound g c =
    let inside = c.self.inside in
    kept-sound g.R.Role.SIDE inside.point inside.facts.items c.args.self.now c.contracts.result.now c.book.result.now.documents c.unwrap-frame.result
    c.self.invariant.keeps.stages.legal (ap (λ (s : DeskState). s.facts) (sym c.self.view_is)) c.contracts.ensures c.book.ensures.nominations

pub returns-clause-value : goal.returns-clause-value
returns-clause-value g c =
    let facts = c.args.self.now.facts in
    let id = c.args.id.now in
    let side : c.SIDE.result ≡ g.R.Role.SIDE = search rules in
    let frame : c.unwrap-frame.result ≡ id.day = search rules in
    let same = reads-processed c.contracts.result.now (capacity_of facts) c.book.result.now.documents (documents_of facts) c.SIDE.result c.unwrap-frame.result id.cycle c.args.rule c.contracts.ensures
    (λ portfolio. c.book.ensures.nominations portfolio c.unwrap-frame.result) in
    subst (λ (t : TableContents). IfOk c.processed.result (λ table. table ≡ t)) (same ∙ (λ i. processed_of (capacity_of facts) (documents_of facts) (side i) (frame i) id.cycle c.args.rule)) c.processed.ensures.value

pub returns-clause-few_of_each : goal.returns-clause-few_of_each
returns-clause-few_of_each g c =
    let side : c.SIDE.result ≡ g.R.Role.SIDE = search rules in subst (λ (s : Side). IfOk c.processed.result (HasFewOfEach s)) side c.processed.ensures.few_of_each

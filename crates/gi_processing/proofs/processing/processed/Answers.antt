use Rattle.std.proofs.Common.{◌≡◌, ℕ, List, Result, Ok, Err, ap, sym, subst, ◌∙◌}
use Rattle.std.specs.Prelude.{IfOk}
use Rattle.std.proofs.lemmas.Result.{IfOk-weaker, OkIff-at_ok}
use Rattle.gi_day.specs.Cycles.{IsCycle, first_hour}
use Rattle.jiff_core.specs.declared.civil.date.Date.{Date}
use Rattle.std.specs.declared.alloc.AllocError.{AllocError}
use Rattle.gi_pairs.specs.Table.{IsTable, TableContents}
use Rattle.gi_pairs.specs.declared.side.Side.{Side}
use Rattle.gi_messages.specs.declared.message.Nomint.{Nomint}
use Rattle.gi_processing.specs.Capacity.{Capacity}
use Rattle.gi_processing.specs.Processing.{AreSound, CanProcess, HasFewOfEach, IsProcessed, processed, span_of, span_table}
use Rattle.gi_processing.specs.declared.rule.Rule.{Rule}
use Rattle.gi_processing.specs.declared.span.Span.{Span}
use Rattle.gi_processing.proofs.ProcessingLaws.{is_processed}
use Rattle.gi_processing.proofs.ProcessingRows.{table-few_of_each}
use Rattle.gi_processing.proofs.processing.processed.Goals as goal

pub table_of-requires-clause-sound : goal.table_of-requires-clause-sound
table_of-requires-clause-sound c = subst (AreSound c.args.contracts.now c.args.book.now.documents) (sym c.day.ensures) c.requires.sound

-- the span of the cycle
abbrev spans : goal.After-table_of → Type 0
spans c = ◌≡◌ {A = Span} (record { side = c.args.side; day = c.day.result; first = c.unwrap.result; last = c.hours.result; rule = c.args.rule }) (span_of c.args.side c.args.frame.now c.args.cycle c.args.rule)

span_is : (c : goal.After-table_of) → spans c
span_is c =
    let first = (OkIff-at_ok c.first_hour.result (IsCycle c.args.frame.now c.args.cycle) (first_hour c.args.frame.now c.args.cycle) c.unwrap.result c.first_hour.ensures.value c.unwrap.ensures).1 in
    λ i. record { side = c.args.side; day = c.day.ensures i; first = first i; last = c.hours.ensures.value i; rule = c.args.rule }

pub returns-clause-value : goal.returns-clause-value
unfolding processed
returns-clause-value c =
    let capacity = c.args.contracts.now in
    let documents = c.args.book.now.documents in
    IfOk-weaker c.table_of.result (λ (table : TableContents). table ≡ span_table capacity (record { side = c.args.side; day = c.day.result; first = c.unwrap.result; last = c.hours.result; rule = c.args.rule }) documents)
    (λ table. table ≡ span_table capacity (span_of c.args.side c.args.frame.now c.args.cycle c.args.rule) documents)
    (λ table same. same ∙ ap (λ (span : Span). span_table capacity span documents) (span_is c)) c.table_of.ensures.value

-- a table that is made of the span is the processed one
made_so : (capacity : Capacity) (documents : List Nomint) (side : Side) (day : Date) (cycle : ℕ) (rule : Rule) (span : Span) → span ≡ span_of side day cycle rule → (r : Result TableContents AllocError)
    → IfOk r (λ table. table ≡ span_table capacity span documents) → IfOk r IsTable → IfOk r (λ _. CanProcess capacity documents span) → IfOk r (IsProcessed capacity documents side day cycle rule)
made_so capacity documents side day cycle rule span same (Err e) value table known = tt
made_so capacity documents side day cycle rule span same (Ok t) value table known =
    is_processed capacity documents side day cycle rule t (record {
      kept = subst (CanProcess capacity documents) same known;
      is_table = table;
      is = value ∙ ap (λ (s : Span). span_table capacity s documents) same;
    })

pub returns-clause-law : goal.returns-clause-law
returns-clause-law c =
    made_so c.args.contracts.now c.args.book.now.documents c.args.side c.args.frame.now c.args.cycle c.args.rule (record { side = c.args.side; day = c.day.result; first = c.unwrap.result; last = c.hours.result; rule = c.args.rule })
    (span_is c) c.table_of.result c.table_of.ensures.value c.table_of.ensures.table c.table_of.ensures.known

-- in a table that is made of the span each portfolio has few rows
few_so : (capacity : Capacity) (documents : List Nomint) (span : Span) (r : Result TableContents AllocError) → IfOk r (λ table. table ≡ span_table capacity span documents)
    → IfOk r (λ _. CanProcess capacity documents span) → IfOk r (HasFewOfEach span.side)
few_so capacity documents span (Err e) value known = tt
few_so capacity documents span (Ok t) value known = subst (HasFewOfEach span.side) (sym value) (table-few_of_each capacity documents span known)

pub returns-clause-few_of_each : goal.returns-clause-few_of_each
returns-clause-few_of_each c =
    few_so c.args.contracts.now c.args.book.now.documents (record { side = c.args.side; day = c.day.result; first = c.unwrap.result; last = c.hours.result; rule = c.args.rule })
    c.table_of.result c.table_of.ensures.value c.table_of.ensures.known

use Rattle.std.proofs.lemmas.Result.{IfErr-weaker}
use Rattle.gi_commands.proofs.BookFaults.{converted, facts_fault, load_fault, rows_fault}
use Rattle.gi_commands.proofs.reporting.replayed_report.Goals as goal

pub returns-in_err-load-clause-refused_rows : goal.returns-in_err-load-clause-refused_rows
returns-in_err-load-clause-refused_rows g c = λ clean.
    let why = c.in_err-load.field-0.0 in
    converted c.from_residual.result why _ c.from_residual.ensures.1 (rows_fault _ _ _ _ why (c.in_err-load.ensures.refused clean) (c.in_err-load.ensures.failed clean))

pub returns-in_err-load-clause-fault : goal.returns-in_err-load-clause-fault
returns-in_err-load-clause-fault g c = converted c.from_residual.result c.in_err-load.field-0.0 _ c.from_residual.ensures.1 (load_fault _ _ c.in_err-load.field-0.0)

pub returns-clause-fault : goal.returns-clause-fault
returns-clause-fault g c = IfErr-weaker c.facts_report.result _ _ (facts_fault _ _ _) c.facts_report.ensures.fault

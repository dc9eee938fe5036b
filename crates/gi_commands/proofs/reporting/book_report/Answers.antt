use Rattle.gi_commands.proofs.reporting.book_report.Goals as goal

pub returns-in-I-clause-of_rows : goal.returns-in-I-clause-of_rows
returns-in-I-clause-of_rows g c = rw c.in-I.is c.replayed_report.ensures.of_rows

pub returns-in-M-clause-of_rows : goal.returns-in-M-clause-of_rows
returns-in-M-clause-of_rows g c = rw c.in-M.is c.replayed_report-in-M.ensures.of_rows

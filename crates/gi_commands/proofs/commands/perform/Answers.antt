use Rattle.gi_commands.proofs.commands.perform.Goals as goal

pub returns-in-Explain-clause-code : goal.returns-in-Explain-clause-code
returns-in-Explain-clause-code g c = rw c.in-Explain.is c.explain.ensures.code

pub returns-in-Report-clause-code : goal.returns-in-Report-clause-code
returns-in-Report-clause-code g c = rw c.in-Report.is c.report.ensures.code

pub returns-in-Page-clause-code : goal.returns-in-Page-clause-code
returns-in-Page-clause-code g c = rw c.in-Page.is c.page.ensures.code

use Rattle.gi_office_cases.proofs.offices.office_answers.Given as goal

abbrev pub ghosts-answers_of-A-Ledger : goal.ghosts-answers_of-A-Ledger
ghosts-answers_of-A-Ledger g a = record { name = a.former.name; parts = a.former.parts }

abbrev pub ghosts-answers_of-B-Ledger : goal.ghosts-answers_of-B-Ledger
ghosts-answers_of-B-Ledger g a = record { name = a.later.name; parts = a.later.parts }

abbrev pub ghosts-answers_of-C-Ledger : goal.ghosts-answers_of-C-Ledger
ghosts-answers_of-C-Ledger g a = record { name = a.matching.name; parts = a.matching.parts }

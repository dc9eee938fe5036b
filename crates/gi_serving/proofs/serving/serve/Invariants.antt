use Rattle.gi_serving.proofs.serving.serve.Given as goal

abbrev pub ghosts-serve_by-L-Ledger : goal.ghosts-serve_by-L-Ledger
ghosts-serve_by-L-Ledger g a = record { name = a.initiating.blank.name; parts = a.initiating.blank.parts }

abbrev pub ghosts-serve_by-K-Ledger : goal.ghosts-serve_by-K-Ledger
ghosts-serve_by-K-Ledger g a = record { name = a.matching.blank.name; parts = a.matching.blank.parts }

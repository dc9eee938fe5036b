use Rattle.gi_live.proofs.living.answered.Given as goal

abbrev pub ghosts-close_due : goal.ghosts-close_due
ghosts-close_due g a = record { name = a.blank.name; parts = a.blank.parts }

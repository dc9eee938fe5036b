use Rattle.gi_live.proofs.living.part.Given as goal

abbrev pub ghosts-stretch : goal.ghosts-stretch
ghosts-stretch g a = record { name = a.blank.name; parts = a.blank.parts }

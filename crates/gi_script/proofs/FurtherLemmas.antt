-- Lines that are read one after the other.
use Rattle.std.proofs.Common.{◌≡◌, List, [], ◌∷◌, ◌++◌, append_assoc, ap, sym, ◌∙◌}
use Rattle.gi_script.specs.Script.{Spelling, SpellAll, SpellsLine}
use Rattle.gi_script.specs.Words.{NumberedLine}
use Rattle.gi_script.specs.declared.line.Line.{Line}

-- some of the lines are read, and these are left
pub record ReadSoFar (S : Spelling) (all left : List NumberedLine) (read : List Line) : Type 0 where
  pub done : List NumberedLine
  pub are : all ≡ done ++ left
  pub spell : SpellAll S done read

spell_push : (S : Spelling) (done : List NumberedLine) (read : List Line) (text : NumberedLine) (line : Line) → SpellAll S done read → SpellsLine S text line → SpellAll S (done ++ text ∷ []) (read ++ line ∷ [])
spell_push S [] [] text line all next = (next, tt)
spell_push S [] (r ∷ rs) text line all next = absurd all
spell_push S (d ∷ ds) [] text line all next = absurd all
spell_push S (d ∷ ds) (r ∷ rs) text line all next = (all.0, spell_push S ds rs text line all.1 next)

pub read_one : (S : Spelling) (all left rest : List NumberedLine) (read : List Line) (text : NumberedLine) (line : Line)
    → ReadSoFar S all left read → left ≡ text ∷ rest → SpellsLine S text line → ReadSoFar S all rest (read ++ line ∷ [])
read_one S all left rest read text line so_far first next = record {
  done = so_far.done ++ text ∷ [];
  are = so_far.are ∙ ap (λ (ts : List NumberedLine). so_far.done ++ ts) first ∙ sym (append_assoc so_far.done (text ∷ []) rest);
  spell = spell_push S so_far.done read text line so_far.spell next;
}

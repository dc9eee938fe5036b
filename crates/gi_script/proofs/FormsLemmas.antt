-- Lines of some forms alone.
use Rattle.std.proofs.Common.{◌≡◌, ℕ, List, Bool, true, false, ◌∙◌}
use Rattle.gi_script.specs.Grammar.{Spells}
use Rattle.gi_script.specs.Script.{spelling, takes}
use Rattle.gi_script.specs.declared.forms.Forms.{Forms}
use Rattle.gi_script.specs.declared.forms.Forms.TheVariants as forms_of
use Rattle.gi_script.specs.declared.instruction.Instruction.{Instruction}

-- an instruction of these forms
pub spelled-taken : (forms : Forms) (line : List ℕ) (instruction : Instruction) → Spells line instruction → takes forms instruction ≡ true → spelling forms line instruction
spelled-taken forms_of.All line instruction spelled taken = spelled
spelled-taken forms_of.Office line instruction spelled taken = (spelled, taken)

not_both : (b : Bool) → b ≡ true → b ≡ false → ⊥
not_both b is_so is_not = cc

-- a line of no form is of none of these
pub unspelled : (forms : Forms) (line : List ℕ) → ((instruction : Instruction) → ¬ (Spells line instruction)) → (other : Instruction) → ¬ (spelling forms line other)
unspelled forms_of.All line none other is = none other is
unspelled forms_of.Office line none other is = none other is.0

-- Bytes are one script at most, and a fault is not passed over.
use Rattle.std.proofs.Common.{◌≡◌, ℕ, List, [], ◌∷◌, ◌++◌, Result, Ok, Err, refl, sym, ◌∙◌, subst}
use Rattle.std.specs.Prelude.{IfOk, IfErr, MatchResult}
use Rattle.gi_script.specs.Grammar.{Spells, SpellsPoint}
use Rattle.gi_script.specs.Laws.{IsOneOfficeScript, IsOneScript}
use Rattle.gi_script.specs.Script.{Spelling, SpellsForOffice, SpellAll, SpellsLine, ScriptContents, IsScriptBy, IsFaultBy, IsFirstUnreadable}
use Rattle.gi_script.specs.Words.{NumberedLine}
use Rattle.gi_script.specs.declared.fault.ScriptFault.{ScriptFault}
use Rattle.gi_script.specs.declared.fault.ScriptFault.TheVariants as faults
use Rattle.gi_script.specs.declared.line.Line.{Line}
use Rattle.gi_script.specs.declared.instruction.Instruction.{Instruction}
use Rattle.gi_script.proofs.OneInstruction.{instruction-one, point-one}

-- a line spells one instruction at most
abbrev pub IsOne : Spelling → Type 0
IsOne S = (line : List ℕ) (a b : Instruction) → S line a → S line b → a ≡ b

pub office-one : IsOne SpellsForOffice
office-one line a b x y = instruction-one line a b x.0 y.0

line-one : (S : Spelling) → IsOne S → (text : NumberedLine) (a b : Line) → SpellsLine S text a → SpellsLine S text b → a ≡ b
line-one S one text a b x y =
    let number = sym x.number ∙ y.number in
    let instruction = one text.text a.instruction b.instruction x.instruction y.instruction in
    λ i. record { number = number i; instruction = instruction i }

lines-one : (S : Spelling) → IsOne S → (texts : List NumberedLine) (a b : List Line) → SpellAll S texts a → SpellAll S texts b → a ≡ b
lines-one S one [] [] [] x y = refl
lines-one S one [] [] (b ∷ bs) x y = absurd y
lines-one S one [] (a ∷ as_) bs x y = absurd x
lines-one S one (t ∷ ts) [] bs x y = absurd x
lines-one S one (t ∷ ts) (a ∷ as_) [] x y = absurd y
lines-one S one (t ∷ ts) (a ∷ as_) (b ∷ bs) x y =
    let first = line-one S one t a b x.0 y.0 in
    let rest = lines-one S one ts as_ bs x.1 y.1 in
    cc

-- the two parts of two equal lists
same_first : (a b : NumberedLine) (as_ bs : List NumberedLine) → a ∷ as_ ≡ b ∷ bs → a ≡ b
same_first a b as_ bs e = cc

same_rest : (a b : NumberedLine) (as_ bs : List NumberedLine) → a ∷ as_ ≡ b ∷ bs → as_ ≡ bs
same_rest a b as_ bs e = cc

script-one-by : (S : Spelling) → IsOne S → (bytes : List ℕ) (a b : ScriptContents) → IsScriptBy S bytes a → IsScriptBy S bytes b → a ≡ b
script-one-by S one bytes a b x y =
    let same : y.first ∷ y.further ≡ x.first ∷ x.further = sym y.lines ∙ x.lines in
    let first = same_first y.first x.first y.further x.further same in
    let rest = same_rest y.first x.first y.further x.further same in
    let point = point-one x.first.text a.point b.point x.point (subst (λ (t : NumberedLine). SpellsPoint t.text b.point) first y.point) in
    let lines = lines-one S one x.further a.lines b.lines x.instructions (subst (λ (ts : List NumberedLine). SpellAll S ts b.lines) rest y.instructions) in
    λ i. record { point = point i; lines = lines i }

pub script-one : IsOneScript
script-one = script-one-by Spells instruction-one

pub office-script-one : IsOneOfficeScript
office-script-one = script-one-by SpellsForOffice office-one

-- ---- what is unreadable is no script

reads_each : (S : Spelling) (front : List NumberedLine) (text : NumberedLine) (back : List NumberedLine) (lines : List Line)
    → SpellAll S (front ++ text ∷ back) lines → (instruction : Instruction) × S text.text instruction
reads_each S [] text back [] x = absurd x
reads_each S [] text back (line ∷ lines) x = (line.instruction, x.0.instruction)
reads_each S (t ∷ ts) text back [] x = absurd x
reads_each S (t ∷ ts) text back (line ∷ lines) x = reads_each S ts text back lines x.1

unreadable-none : (S : Spelling) (texts : List NumberedLine) (number : ℕ) (lines : List Line) → IsFirstUnreadable S texts number → SpellAll S texts lines → ⊥
unreadable-none S texts number lines x y =
    let found = reads_each S x.front x.line x.back lines (subst (λ (ts : List NumberedLine). SpellAll S ts lines) x.are y) in
    x.none found.0 found.1

fault-none : (S : Spelling) (bytes : List ℕ) (fault : ScriptFault) (script : ScriptContents) → IsFaultBy S bytes fault → IsScriptBy S bytes script → fault ≡ faults.OutOfMemory
fault-none S bytes faults.Point script x y = absurd (x y.first y.further script.point y.lines y.point)
fault-none S bytes (faults.Unreadable number) script x y =
    let same = same_rest y.first x.first y.further x.further (sym y.lines ∙ x.lines) in
    absurd (unreadable-none S x.further number script.lines x.unreadable (subst (λ (ts : List NumberedLine). SpellAll S ts script.lines) same y.instructions))
fault-none S bytes faults.OutOfMemory script x y = refl

-- what bytes that are a script are answered
pub only-from : (S : Spelling) → IsOne S → (bytes : List ℕ) (result : Result ScriptContents ScriptFault) → IfOk result (IsScriptBy S bytes) → IfErr result (IsFaultBy S bytes)
    → (script : ScriptContents) → IsScriptBy S bytes script → MatchResult result (λ read. read ≡ script) (λ fault. fault ≡ faults.OutOfMemory)
only-from S one bytes (Ok read) found fault script is = script-one-by S one bytes read script found is
only-from S one bytes (Err why) found fault script is = fault-none S bytes why script fault is

-- The text of a script's first steps, from the notes of them.
use Rattle.std.proofs.Common.{◌≡◌, ◌∙◌, ℕ, List, [], ◌∷◌, ◌++◌, append_assoc, append-nil, Bool, sym}
use Rattle.gi_script.specs.Script.{IsScript, ScriptContents}
use Rattle.gi_script.specs.declared.line.Line.{Line}
use Rattle.gi_simulation.specs.Runs.{IsCutOff, gathered, noted, printed, telling, turns}
use Rattle.gi_simulation.specs.Simulation.{SimulationState, after, new_simulation}
use Rattle.gi_commands.specs.Simulating.{IsCutShort}

-- what is noted is the lines, after those noted before
told : (trace : Bool) (text : List ℕ) (s : SimulationState) (lines : List Line) → noted (telling trace) text s lines ≡ text ++ gathered (printed trace) s lines
told trace text s [] = sym (append-nil text)
told trace text s (line ∷ lines) =
    let this = printed trace s line in
    told trace (text ++ this) (after s line.instruction) lines ∙ append_assoc text this (gathered (printed trace) (after s line.instruction) lines)

-- a run that was cut off tells the first steps
pub cut_run : (trace : Bool) (input text : List ℕ) (script : ScriptContents) (end : SimulationState) → IsScript input script
    → IsCutOff (telling trace) (new_simulation script.point) (turns script.lines) [] text end → IsCutShort trace input text
cut_run trace input text script end spelled cut = record {
  script = script;
  spelled = spelled;
  made = cut.made;
  left = cut.next ∷ cut.left;
  all = cut.all;
  written = cut.notes ∙ told trace [] (new_simulation script.point) cut.made;
}

-- and so does a whole one
pub cut_after : (trace : Bool) (input text : List ℕ) (script : ScriptContents) → IsScript input script
    → text ≡ gathered (printed trace) (new_simulation script.point) (turns script.lines) → IsCutShort trace input text
cut_after trace input text script spelled written = record {
  script = script;
  spelled = spelled;
  made = turns script.lines;
  left = [];
  all = sym (append-nil (turns script.lines));
  written = written;
}

use Rattle.std.proofs.Common.{◌≡◌, refl, rules, true}
use Rattle.gi_script.specs.Grammar.{Spells}
use Rattle.gi_script.specs.Script.{takes}
use Rattle.gi_script.specs.declared.instruction.Instruction.{Instruction}
use Rattle.gi_script.proofs.FormsLemmas.{spelled-taken, unspelled}
use Rattle.gi_script.proofs.reading.line.Goals as goal

pub returns-else-not-take : goal.returns-else-not-take
returns-else-not-take c =
    let taken : takes c.args.forms c.in-Ok.instruction ≡ true = search rules in
    record {
      number = refl;
      instruction = spelled-taken c.args.forms c.args.text.now c.in-Ok.instruction c.in-Ok.ensures taken;
    }

pub returns-in-Err-Unreadable : goal.returns-in-Err-Unreadable
returns-in-Err-Unreadable c =
    let none : (instruction : Instruction) → ¬ (Spells c.args.text.now instruction) = search rules in
    (refl, unspelled c.args.forms c.args.text.now none)

-- The rules, as a line names them.
use Rattle.std.specs.Prelude.{ℕ, List, codes}
use Rattle.gi_processing.specs.declared.rule.Rule.{Rule}
use Rattle.gi_processing.specs.declared.rule.Rule.TheVariants.{One, Two}

abbrev pub rule_text : Rule → List ℕ
rule_text One = codes "1"
rule_text Two = codes "2"

-- The rules by their numbers.
use Rattle.std.specs.Prelude.{ℕ, nat_eq, if◌then◌else◌, Option, Some, None}
use Rattle.gi_processing.specs.declared.rule.Rule.{Rule}
use Rattle.gi_processing.specs.declared.rule.Rule.TheVariants.{One, Two}

abbrev pub rule_number : Rule → ℕ
rule_number One = 1
rule_number Two = 2

abbrev pub rule_numbered : ℕ → Option Rule
rule_numbered number = if nat_eq number 1 then Some One else (if nat_eq number 2 then Some Two else None)

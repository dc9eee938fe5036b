-- The question that words ask, from what was read of each.
use Rattle.std.proofs.Common.{◌≡◌, ap₂, ℕ, List}
use Rattle.jiff_core.specs.declared.civil.date.Date.{Date}
use Rattle.gi_day.specs.Day.{IsDayText, IsGasYear}
use Rattle.gi_pairs.specs.Code.{IsCode}
use Rattle.gi_command_line.specs.Asked.{QuantityWords}
use Rattle.gi_explanations.specs.declared.question.Question.{Question}
use Rattle.gi_commands.specs.Explaining.{Asks}

-- the question of two codes and a day
abbrev of_parts : QuantityWords → Date → List ℕ → List ℕ → Question
of_parts words day initiating matching = record {
  pair = record { initiating = initiating; matching = matching };
  direction = words.direction;
  id = record { day = day; cycle = words.cycle };
  hour = words.hour;
}

pub asks-of_parts : (words : QuantityWords) (day : Date) (initiating matching : List ℕ)
    → IsCode words.initiating × (initiating ≡ words.initiating) → IsCode words.matching × (matching ≡ words.matching)
    → IsGasYear day.year × IsDayText day words.day → Asks words (of_parts words day initiating matching)
asks-of_parts words day initiating matching first second named = record {
  initiating = first.0;
  matching = second.0;
  day = day;
  is_gas_day = named.0;
  named = named.1;
  asked = ap₂ (of_parts words day) first.1 second.1;
}

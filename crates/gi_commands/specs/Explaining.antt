-- Which quantity the words of `explain` name.
use Rattle.std.specs.Prelude.{◌≡◌, ◌⊎◌, Err}
use Rattle.jiff_core.specs.declared.civil.date.Date.{Date}
use Rattle.gi_day.specs.Day.{IsDayText, IsGasYear}
use Rattle.gi_day.specs.Read.{IsDayRead}
use Rattle.gi_pairs.specs.Code.{IsCode}
use Rattle.gi_command_line.specs.Asked.{QuantityWords}
use Rattle.gi_explanations.specs.declared.question.Question.{Question}
use Rattle.gi_commands.specs.declared.fault.Fault.{Fault}
use Rattle.gi_commands.specs.declared.fault.Fault.TheVariants as fault

-- one of the two portfolios is no code
abbrev pub NamesNoCodes : QuantityWords → Type 0
NamesNoCodes words = ¬ (IsCode words.initiating) ⊎ ¬ (IsCode words.matching)

-- the question that the words ask, on the gas day that one of them names
abbrev pub question_on : QuantityWords → Date → Question
question_on words day = record {
  pair = record { initiating = words.initiating; matching = words.matching };
  direction = words.direction;
  id = record { day = day; cycle = words.cycle };
  hour = words.hour;
}

pub record Asks (words : QuantityWords) (question : Question) : Type 0 where
  pub initiating : IsCode words.initiating
  pub matching : IsCode words.matching
  pub day : Date
  pub is_gas_day : IsGasYear day.year
  pub named : IsDayText day words.day
  pub asked : question ≡ question_on words day

-- why words ask none, the first: the codes before the day
abbrev pub IsQuestionFault : QuantityWords → Fault → Type 0
IsQuestionFault words (fault.Code why) = NamesNoCodes words
IsQuestionFault words (fault.Day why) = IsCode words.initiating × IsCode words.matching × IsDayRead words.day (Err why)
IsQuestionFault words _ = ⊥

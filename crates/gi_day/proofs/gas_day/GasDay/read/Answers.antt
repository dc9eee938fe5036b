use Rattle.std.proofs.Common.{Ok, Err, IsTrue, false, arith, rules}
use Rattle.std.proofs.lemmas.Int.{ints}
use Rattle.gi_day.specs.declared.gas_day.DayFault.TheVariants.{DayRange}
use Rattle.gi_day.proofs.DayLaws.{read-day_text}
use Rattle.gi_day.proofs.gas_day.GasDay.read.Goals as goal

pub returns-then-is_gas_year-clause-again : goal.returns-then-is_gas_year-clause-again
returns-then-is_gas_year-clause-again c = read-day_text c.args.text.now (Ok c.in-Some.date) (search rules)

pub returns-else-is_gas_year-clause-exact : goal.returns-else-is_gas_year-clause-exact
returns-else-is_gas_year-clause-exact c = (
  c.in-Some.date,
  c.in-Some.ensures,
  λ range.
      let bad : IsTrue false = c.if-is_gas_year.ensures.1 (grind (arith, ints), grind (arith, ints)) in cc,
)

pub returns-else-is_gas_year-clause-again : goal.returns-else-is_gas_year-clause-again
returns-else-is_gas_year-clause-again c = read-day_text c.args.text.now (Err DayRange) (returns-else-is_gas_year-clause-exact c)

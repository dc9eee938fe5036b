-- The explanation of a quantity, in lines.
use Rattle.std.specs.Prelude.{ℕ, List, ◌++◌}
use Rattle.gi_pairs.specs.declared.side.Side.{Side}
use Rattle.gi_desk.specs.Machine.{DeskState}
use Rattle.gi_explanations.specs.Basis.{asked_line, basis_lines}
use Rattle.gi_explanations.specs.Numbers.{numbers}
use Rattle.gi_explanations.specs.Outcome.{outcome_lines}
use Rattle.gi_explanations.specs.Reduction.{reduction_lines}
use Rattle.gi_explanations.specs.declared.question.Question.{Question}

-- what was asked, what the quantity is made from, how it is reduced, and what became of it
unfoldable pub explanation : Side → DeskState → Question → List ℕ
explanation side s q =
    let n = numbers side s.facts q in asked_line side q ++ (basis_lines side s.facts q n ++ (reduction_lines side s.facts q ++ outcome_lines side s q n))

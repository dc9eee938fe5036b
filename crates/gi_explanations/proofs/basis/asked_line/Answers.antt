use Rattle.std.proofs.Common.{◌≡◌, ◌∙◌, ◌++◌, ℕ, List, ap, append_assoc, codes, decimal, string_bytes}
use Rattle.std.proofs.lemmas.Result.{IfOk-weaker}
use Rattle.gi_day.specs.Day.{day_text}
use Rattle.gi_pairs.specs.Direction.{direction_text}
use Rattle.gi_pairs.specs.Side.{side_text}
use Rattle.gi_explanations.proofs.basis.asked_line.Goals as goal

-- a format of so many pieces joins those in the middle first
regrouped : (side initiating matching direction day cycle rest : List ℕ)
    → (side ++ (codes " " ++ (initiating ++ (codes " " ++ (matching ++ (codes " " ++ (direction ++ (codes " " ++ (day ++ (codes " " ++ cycle)))))))))) ++ rest
    ≡ side ++ (codes " " ++ (initiating ++ (codes " " ++ (matching ++ (codes " " ++ (direction ++ (codes " " ++ (day ++ (codes " " ++ (cycle ++ rest))))))))))
regrouped side initiating matching direction day cycle rest = simp append_assoc

pub returns : goal.returns
returns c =
    let q = c.args.question.now in
    let whole = regrouped (side_text c.args.side) q.pair.initiating q.pair.matching (direction_text q.direction) (day_text q.id.day) (decimal q.id.cycle)
    (codes " " ++ (decimal q.hour ++ codes "\n")) in
    IfOk-weaker c.format.result _ _ (λ text e. let is : string_bytes text ≡ _ = e in is ∙ ap (λ (words : List ℕ). codes "explain " ++ words) whole) c.format.ensures.ok

-- What the two rules come to.
use Rattle.std.specs.Prelude.{◌≡◌, ℕ, ◌≤◌, List, filter, All}
use Rattle.gi_messages.specs.declared.nomination_line.NominationLine.{NominationLine}
use Rattle.gi_processing.specs.Reduction.{is_served_up_to, part_by, quantity_at, total}
use Rattle.gi_processing.specs.declared.rule.Rule.{Rule}
use Rattle.gi_processing.specs.declared.rule.Rule.TheVariants.{One, Two}

-- By rule 2 a line's part is the same whatever the lines of higher numbers are: among two lists of lines of a direction
-- that have the same lines up to its number, it gets the same.
abbrev pub HigherTakeNothing : Type 0
HigherTakeNothing =
    (available index : ℕ) (lines others : List NominationLine) (line : NominationLine) → filter (is_served_up_to line.priority) lines ≡ filter (is_served_up_to line.priority) others
    → part_by Two available index lines line ≡ part_by Two available index others line

-- Where all lines have one priority, the two rules agree.
abbrev pub RulesAgree : Type 0
RulesAgree =
    (priority available index : ℕ) (lines : List NominationLine) (line : NominationLine) → All (λ l. l.priority ≡ priority) lines → line.priority ≡ priority
    → part_by Two available index lines line ≡ part_by One available index lines line

-- Where all lines fit, each has its quantity, by either rule.
abbrev pub WholeWhereAllFit : Type 0
WholeWhereAllFit =
    (rule : Rule) (available index : ℕ) (lines : List NominationLine) (line : NominationLine) → total index lines ≤ available
    → part_by rule available index lines line ≡ quantity_at index line

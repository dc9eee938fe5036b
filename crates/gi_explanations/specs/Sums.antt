-- The lines of a nomination that a quantity comes from, and their sums.
use Rattle.std.specs.Prelude.{ℕ, ◌-◌, List, find, filter, Bool, true, ◌&&◌, if◌then◌else◌, Option, Some, None}
use Rattle.std.specs.Ordering.{is_le, is_lt}
use Rattle.std.specs.Str.{bytes_eq}
use Rattle.gi_pairs.specs.Key.{code_cmp}
use Rattle.gi_pairs.specs.declared.direction.Direction.{Direction}
use Rattle.gi_messages.specs.declared.nomination_line.NominationLine.{NominationLine}
use Rattle.gi_processing.specs.Reduction.{has_priority, is_in, is_served_before, quantity_at, served_before, sharing, sum_before, sum_up_to, total}
use Rattle.gi_processing.specs.declared.rule.Rule.{Rule}
use Rattle.gi_processing.specs.declared.rule.Rule.TheVariants.{One, Two}
use Rattle.gi_explanations.specs.declared.lines.Group.{Group}
use Rattle.gi_explanations.specs.declared.lines.Group.TheVariants as groups
use Rattle.gi_explanations.specs.declared.lines.Span.{Span}
use Rattle.gi_explanations.specs.declared.lines.Span.TheVariants.{Before, UpTo, All}

-- the line is for the counterparty and the direction
abbrev pub is_line : List ℕ → Direction → NominationLine → Bool
is_line code direction line = bytes_eq line.counterparty code && is_in direction line

abbrev pub line_for : List ℕ → Direction → List NominationLine → Option NominationLine
line_for code direction lines = find (is_line code direction) lines

-- the lines of a direction that share with that one by the rule; where it is none, all of them
abbrev pub sharing_with : Rule → Option NominationLine → List NominationLine → List NominationLine
sharing_with rule None lines = lines
sharing_with rule (Some line) lines = sharing rule line.priority lines

-- what the lines that are served before it take in the hour of an index
abbrev pub sum_served_before : Rule → Option NominationLine → ℕ → List NominationLine → ℕ
sum_served_before rule None index lines = 0
sum_served_before rule (Some line) index lines = total index (served_before rule line.priority lines)

-- whether a counterparty is summed beside a code, and whether a line is of the group that is summed
abbrev pub is_counted : Span → List ℕ → List ℕ → Bool
is_counted Before code other = is_lt (code_cmp other code)
is_counted UpTo code other = is_le (code_cmp other code)
is_counted All code other = true

abbrev pub is_of_group : Group → NominationLine → Bool
is_of_group groups.Whole line = true
is_of_group (groups.Of priority) line = has_priority priority line
is_of_group (groups.Before priority) line = is_served_before priority line

-- what a line adds to the sum
abbrev pub share_of : Span → Group → List ℕ → Direction → ℕ → NominationLine → ℕ
share_of span group code direction index line =
    if is_in direction line && is_of_group group line && is_counted span code line.counterparty then quantity_at index line else 0

-- the sum of the lines' quantities in the hour of an index
abbrev pub sum_over : Span → List ℕ → ℕ → List NominationLine → ℕ
sum_over Before code index lines = sum_before code index lines
sum_over UpTo code index lines = sum_up_to code index lines
sum_over All code index lines = total index lines

-- the group that is summed by a rule with a line, where there is one
abbrev pub group_for : Rule → Option NominationLine → Group
group_for One line = groups.Whole
group_for Two None = groups.Whole
group_for Two (Some line) = groups.Of line.priority

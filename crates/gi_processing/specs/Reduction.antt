-- How the quantities of a portfolio's lines are reduced to what is available to it, by rule 1 and by rule 2 (this project's
-- formula; that a portfolio may set priorities is a use of the markets).
use Rattle.std.specs.Prelude.{◌≡◌, ℕ, ◌-◌, ◌*◌, ◌/◌, ◌<◌, ◌≤◌, List, [], ◌∷◌, length, filter, map, take, sum, sum_by, slice_index, All, Bool, nat_eq, nat_lt, nat_le, ◌⊎◌, if◌then◌else◌}
use Rattle.std.specs.Borrow.{Bor}
use Rattle.std.specs.List.Sorted.{IsStrictlySortedBy}
use Rattle.std.specs.Ordering.{is_le, is_lt}
use Rattle.gi_pairs.specs.Direction.{place_of}
use Rattle.gi_pairs.specs.Key.{code_cmp}
use Rattle.gi_pairs.specs.declared.direction.Direction.{Direction}
use Rattle.gi_messages.specs.declared.nomination_line.NominationLine.{NominationLine}
use Rattle.gi_processing.specs.declared.rule.Rule.{Rule}
use Rattle.gi_processing.specs.declared.rule.Rule.TheVariants.{One, Two}

-- whether a line is of the direction
abbrev pub is_in : Direction → NominationLine → Bool
is_in direction line = nat_eq (place_of line.direction) (place_of direction)

-- the lines of one direction
abbrev pub in_direction : Direction → List NominationLine → List NominationLine
in_direction direction = filter (is_in direction)

-- a line's quantity in the hour of an index, counted from 0
abbrev pub quantity_at : ℕ → NominationLine → ℕ
quantity_at index line = slice_index line.hours index

-- the sum of the lines' quantities in an hour
abbrev pub total : ℕ → List NominationLine → ℕ
total index = sum_by (quantity_at index)

-- whether a line's counterparty comes before a code
abbrev pub is_before : List ℕ → NominationLine → Bool
is_before code line = is_lt (code_cmp line.counterparty code)

-- whether it comes before the code or is the code
abbrev pub is_up_to : List ℕ → NominationLine → Bool
is_up_to code line = is_le (code_cmp line.counterparty code)

abbrev pub sum_before : List ℕ → ℕ → List NominationLine → ℕ
sum_before code index lines = total index (filter (is_before code) lines)

abbrev pub sum_up_to : List ℕ → ℕ → List NominationLine → ℕ
sum_up_to code index lines = total index (filter (is_up_to code) lines)

-- A line's part of what is available to the lines of its direction: its quantity, where all together fit.
-- Elsewhere the sums of the quantities, in order of counterparty, are scaled to what is available and rounded down,
-- and the line has the difference of the sums up to it and before it.
unfoldable pub part : ℕ → ℕ → List NominationLine → NominationLine → ℕ
part available index lines line =
    if nat_le (total index lines) available then quantity_at index line
    else available * sum_up_to line.counterparty index lines / total index lines - available * sum_before line.counterparty index lines / total index lines

-- whether a line has the priority, and whether it has a lower number, so that it is served before
abbrev pub has_priority : ℕ → NominationLine → Bool
has_priority priority line = nat_eq line.priority priority

abbrev pub is_served_before : ℕ → NominationLine → Bool
is_served_before priority line = nat_lt line.priority priority

-- whether it is served before or together with lines of the priority
abbrev pub is_served_up_to : ℕ → NominationLine → Bool
is_served_up_to priority line = nat_le line.priority priority

-- of the lines of a direction those that share with the lines of a priority: by rule 1 all, by rule 2 those of it
abbrev pub sharing : Rule → ℕ → List NominationLine → List NominationLine
sharing One priority lines = lines
sharing Two priority lines = filter (has_priority priority) lines

-- those that are served before them: by rule 1 none, by rule 2 those of lower numbers
abbrev pub served_before : Rule → ℕ → List NominationLine → List NominationLine
served_before One priority lines = []
served_before Two priority lines = filter (is_served_before priority) lines

-- and what these leave of what is available
abbrev pub left_for : Rule → ℕ → ℕ → ℕ → List NominationLine → ℕ
left_for rule priority available index lines = available - total index (served_before rule priority lines)

-- A line's part by a rule, of what is available to the lines of its direction: its part of what those served before it
-- leave, among those that share it.
abbrev pub part_by : Rule → ℕ → ℕ → List NominationLine → NominationLine → ℕ
part_by rule available index lines line =
    part (left_for rule line.priority available index lines) index (sharing rule line.priority lines) line

-- no line has a priority from the first number on that is below the second
abbrev pub HasNoneBetween : ℕ → ℕ → List NominationLine → Type 0
HasNoneBetween first second = All (λ line. (line.priority < first) ⊎ (second ≤ line.priority))

-- lines with one more, before the first of a later counterparty
abbrev pub with_line : NominationLine → List NominationLine → List NominationLine
with_line line [] = line ∷ []
with_line line (x ∷ xs) = if is_lt (code_cmp line.counterparty x.counterparty) then line ∷ x ∷ xs else x ∷ with_line line xs

-- the lines in order of counterparty
abbrev pub by_counterparty : List NominationLine → List NominationLine
by_counterparty [] = []
by_counterparty (line ∷ lines) = with_line line (by_counterparty lines)

-- the lines that references are to
abbrev pub referred : List (Bor NominationLine) → List NominationLine
referred = map (λ line. line.now)

-- the counterparties of lines
abbrev pub counterparties : List NominationLine → List (List ℕ)
counterparties = map (λ line. line.counterparty)

-- lines whose counterparties ascend strictly
abbrev pub AreOrdered : List NominationLine → Type 0
AreOrdered lines = IsStrictlySortedBy code_cmp (counterparties lines)

-- the sum of the first so many quantities, scaled where not all fit
abbrev pub quotient : ℕ → ℕ → ℕ → ℕ
quotient available sum total = if nat_le total available then sum else available * sum / total

-- the parts of all lines of a direction
abbrev pub parts : ℕ → ℕ → List NominationLine → List ℕ
parts available index lines = map (part available index lines) lines

-- Quantities reduced to what is available: all stay where they fit; elsewhere the sum of the first so many parts is
-- that of the first so many quantities, scaled and rounded down.
pub record IsReduction (available : ℕ) (quantities parts : List ℕ) : Type 0 where
  pub each : length parts ≡ length quantities
  pub whole : sum quantities ≤ available → parts ≡ quantities
  pub scaled : available < sum quantities → (count : ℕ) → sum (take count parts) ≡ available * sum (take count quantities) / sum quantities

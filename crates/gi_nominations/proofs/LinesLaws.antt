-- What lines without a fault are.
use Rattle.std.proofs.Common.{◌≡◌, ℕ, ◌≤◌, List, length, Bool, true, false, cond, not, Some, None, nat_lt, ltb-false, refl}
use Rattle.gi_messages.specs.declared.nomination_line.NominationLine.{NominationLine}
use Rattle.gi_nominations.specs.Lines.{has_hours, has_twins, lines_fault, most_lines}
use Rattle.gi_nominations.specs.declared.nomination_fault.NominationFault.TheVariants.{HourCount, TooManyLines, DuplicateLine}

pub record AreLines (hours : ℕ) (lines : List NominationLine) : Type 0 where
  pub whole : has_hours hours lines ≡ true
  pub few : length lines ≤ most_lines
  pub distinct : has_twins lines ≡ false

by_tests : (hours : ℕ) (lines : List NominationLine) (whole many twins : Bool) → has_hours hours lines ≡ whole → nat_lt most_lines (length lines) ≡ many → has_twins lines ≡ twins
    → cond (not whole) (Some HourCount) (cond many (Some TooManyLines) (cond twins (Some DuplicateLine) None)) ≡ None → AreLines hours lines
by_tests hours lines false many twins whole_is many_is twins_is e = absurd cc
by_tests hours lines true true twins whole_is many_is twins_is e = absurd cc
by_tests hours lines true false true whole_is many_is twins_is e = absurd cc
by_tests hours lines true false false whole_is many_is twins_is e = record { whole = whole_is; few = ltb-false most_lines (length lines) many_is; distinct = twins_is }

pub without_fault : (hours : ℕ) (lines : List NominationLine) → lines_fault hours lines ≡ None → AreLines hours lines
unfolding lines_fault
without_fault hours lines e = by_tests hours lines (has_hours hours lines) (nat_lt most_lines (length lines)) (has_twins lines) refl refl refl e

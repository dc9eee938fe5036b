-- When lines of nominations and nominations are equal.
use Rattle.std.specs.Prelude.{Bool, nat_eq}
use Rattle.std.specs.Cmp.Lexicographic.{pointwise}
use Rattle.std.specs.Ordering.{on, eq_of_both}
use Rattle.gi_day.specs.SameDay.{same_day}
use Rattle.gi_pairs.specs.Direction.{place_of}
use Rattle.gi_messages.specs.declared.nomination_line.NominationLine.{NominationLine}
use Rattle.gi_messages.specs.declared.message.Nomint.{Nomint}

-- their counterparties, directions, quantities and priorities are
abbrev pub line_eq : NominationLine → NominationLine → Bool
line_eq =
    eq_of_both (on (λ l. l.counterparty) (pointwise nat_eq)) (eq_of_both (on (λ l. l.direction) (on place_of nat_eq))
    (eq_of_both (on (λ l. l.hours) (pointwise nat_eq)) (on (λ l. l.priority) nat_eq)))

-- their points, portfolios, days, versions and lists of lines are
abbrev pub nomint_eq : Nomint → Nomint → Bool
nomint_eq =
    eq_of_both (on (λ m. m.point) (pointwise nat_eq)) (eq_of_both (on (λ m. m.portfolio) (pointwise nat_eq))
    (eq_of_both (on (λ m. m.day) same_day) (eq_of_both (on (λ m. m.version) nat_eq) (on (λ m. m.lines) (pointwise line_eq)))))

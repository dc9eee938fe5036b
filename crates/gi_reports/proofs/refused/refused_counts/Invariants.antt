use Rattle.std.proofs.Common.{◌≡◌, ◌++◌}
use Rattle.gi_reports.specs.Refused.{refused_counts}
use Rattle.gi_reports.proofs.refused.refused_counts.Given as goal

-- the groups so far, and those to come
abbrev pub invariant-loop-who : goal.invariant-loop-who
invariant-loop-who l = l.groups.items ++ l.who-iterator ≡ refused_counts l.submissions

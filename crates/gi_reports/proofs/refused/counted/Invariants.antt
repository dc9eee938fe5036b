use Rattle.std.proofs.Common.{◌≡◌, take}
use Rattle.gi_reports.specs.Refused.{refused_counts}
use Rattle.gi_reports.proofs.refused.counted.Given as goal

abbrev pub invariant-loop-code : goal.invariant-loop-code
invariant-loop-code l = l.counts.entries ≡ refused_counts (take l.code-index l.submissions)

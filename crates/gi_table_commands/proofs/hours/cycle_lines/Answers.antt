use Rattle.std.proofs.Common.{◌∙◌, ◌++◌, ap, string_bytes}
use Rattle.gi_table_commands.proofs.HoursLemmas.{more_lines}
use Rattle.gi_table_commands.proofs.hours.cycle_lines.Goals as goal

pub loop-cycle-preserved : goal.loop-cycle-preserved
loop-cycle-preserved c =
    let before = string_bytes c.loop-cycle.text in
    more_lines c.args.frame c.loop-cycle.cycle before (string_bytes c.in_ok-line.line) _ c.loop-cycle.invariant c.in_ok-line.ensures
    (c.in_ok-push_str.ensures.bytes ∙ ap (λ line. before ++ line) c.as_str.ensures.value)

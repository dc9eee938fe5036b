use Rattle.std.proofs.Common.{◌≡◌, ◌∙◌, string_bytes}
use Rattle.std.proofs.lemmas.Result.{IfOk-weaker}
use Rattle.gi_table_commands.specs.Hours.{day_lines}
use Rattle.gi_table_commands.proofs.HoursLemmas.{same_lines}
use Rattle.gi_table_commands.proofs.hours.frame_text.Goals as goal

pub returns : goal.returns
returns c =
    let lines = string_bytes c.in_ok-lines.lines in
    IfOk-weaker c.format.result _ _ (λ text e.
    let is : string_bytes text ≡ day_lines c.day-day.result c.hours-hours.result c.cycle_count-cycles.result lines = e in
    record {
      cycles = lines;
      all_cycles = c.in_ok-lines.ensures;
      written = is ∙ same_lines _ _ _ _ _ _ lines c.day-day.ensures c.hours-hours.ensures.value c.cycle_count-cycles.ensures.value;
    }) c.format.ensures.ok

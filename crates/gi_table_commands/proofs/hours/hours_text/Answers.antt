use Rattle.gi_table_commands.proofs.HoursLemmas.{of_answered}
use Rattle.gi_table_commands.proofs.hours.hours_text.Goals as goal

pub returns-in-Ok-frame_text-clause-text : goal.returns-in-Ok-frame_text-clause-text
returns-in-Ok-frame_text-clause-text c =
    record {
      day = c.in-Ok.day;
      is_gas_day = c.in-Ok.ensures.exact.0;
      named = c.in-Ok.ensures.exact.1;
      of_day = of_answered c.in_ok-frame.frame c.in-Ok.day _ c.in_ok-frame.ensures c.in-Ok-frame_text.ensures;
    }

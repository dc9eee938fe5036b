use Rattle.gi_messages.proofs.WrittenTokens.{wrote, followed, ended}
use Rattle.gi_schedule.specs.Json.{line_data}
use Rattle.gi_schedule.proofs.json_report.put_line.Goals as goal

pub returns : goal.returns
unfolding line_data
returns c =
    let r = c.end_object.result in
    let out = c.end_object.new.self in
    followed r out _ (wrote c.in_ok-begin_object.ensures)
    (followed r out _ (rw c.widened.ensures at c.in_ok-put_number_or_null.ensures)
    (followed r out _ c.in_ok-put_day.ensures
    (followed r out _ (rw c.as_str.ensures at c.in_ok-put_word.ensures)
    (followed r out _ (rw c.widened-2.ensures at c.in_ok-put_number_or_null-2.ensures)
    (followed r out _ (rw c.initiating-initiating.ensures at c.in_ok-put_code_at.ensures)
    (followed r out _ (rw c.matching-matching.ensures at c.in_ok-put_code_at-2.ensures)
    (followed r out _ c.in_ok-put_signed.ensures
    (ended c.end_object.ensures))))))))

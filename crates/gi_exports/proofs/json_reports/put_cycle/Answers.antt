use Rattle.gi_messages.proofs.WrittenTokens.{wrote, followed, ended}
use Rattle.gi_exports.specs.Json.{cycle_data}
use Rattle.gi_exports.proofs.json_reports.put_cycle.Goals as goal

pub returns : goal.returns
unfolding cycle_data
returns c =
    let r = c.end_object.result in
    let out = c.end_object.new.self in
    followed r out _ (wrote c.in_ok-begin_object.ensures)
    (followed r out _ (rw c.from.ensures at c.in_ok-put_number.ensures)
    (followed r out _ c.in_ok-put_day.ensures
    (followed r out _ (rw c.state_of.ensures at c.in_ok-put_word.ensures)
    (ended c.end_object.ensures))))

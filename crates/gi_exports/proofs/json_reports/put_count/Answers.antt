use Rattle.gi_messages.proofs.WrittenTokens.{wrote, followed, ended}
use Rattle.gi_exports.specs.Json.{count_data}
use Rattle.gi_exports.proofs.json_reports.put_count.Goals as goal

pub returns : goal.returns
unfolding count_data
returns c =
    let r = c.end_object.result in
    let out = c.end_object.new.self in
    followed r out _ (wrote c.in_ok-begin_object.ensures)
    (followed r out _ c.in_ok-put_portfolio.ensures
    (followed r out _ c.in_ok-put_whole.ensures
    (ended c.end_object.ensures)))

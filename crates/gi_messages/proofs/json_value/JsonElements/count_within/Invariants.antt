use Rattle.std.proofs.Common.{◌≡◌, ◌+◌}
use Rattle.serde_json.specs.Events.{items_len}
use Rattle.gi_messages.specs.Tokens.{elements_at}
use Rattle.gi_messages.proofs.json_value.JsonElements.count_within.Given as goal

abbrev pub invariant-loop-count : goal.invariant-loop-count
invariant-loop-count l = l.count + items_len (elements_at l.self) ≡ items_len (elements_at l.initial.self)

use Rattle.std.proofs.Common.{◌≡◌, map}
use Rattle.std.specs.List.{range_with_len}
use Rattle.gi_messages.specs.declared.message.Message.TheVariants as messages
use Rattle.gi_desk.specs.Messages.{response_part}
use Rattle.gi_matcher.proofs.response.response_for.Given as goal

abbrev pub invariant-loop-before : goal.invariant-loop-before
invariant-loop-before l = l.messages.items ≡ map (λ number. messages.Delres (response_part l.point l.cycle number)) (range_with_len 1 l.before)

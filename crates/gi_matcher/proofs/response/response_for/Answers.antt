use Rattle.std.proofs.Common.{◌+◌, ◌++◌, ◌∷◌, [], arith, ap, map, sym, ◌∙◌, ℕ}
use Rattle.std.specs.List.{range_with_len}
use Rattle.std.proofs.lemmas.List.FromFn.{map-range_with_len_more}
use Rattle.gi_messages.specs.declared.message.Message.{Message}
use Rattle.gi_messages.specs.declared.message.Message.TheVariants as messages
use Rattle.gi_desk.specs.Messages.{response_part}
use Rattle.gi_matcher.proofs.response.response_for.Goals as goal

pub loop-before-preserved : goal.loop-before-preserved
loop-before-preserved c =
    let before = c.loop-before.before in
    let message : ℕ → Message = λ number. messages.Delres (response_part c.args.point c.args.cycle.now number) in
    c.in_ok-push.ensures.items
    ∙ ap (λ all. all ++ c.in_ok-response.field-0 ∷ []) c.loop-before.invariant
    ∙ ap (λ one. map message (range_with_len 1 before) ++ one ∷ []) c.in_ok-response.ensures
    ∙ sym (map-range_with_len_more message 1 before (before + 1) (omega arith))

use Rattle.std.proofs.Common.{◌∙◌}
use Rattle.gi_messages.proofs.WritingLemmas.{is_text_of, is_read_back}
use Rattle.gi_messages.proofs.encoding.encode.Goals as goal

pub returns-clause-text : goal.returns-clause-text
returns-clause-text c =
    is_text_of c.args.message.now c.into_inner.result.items (c.new-out.ensures.before ∙ c.in_ok-with_capacity.ensures.items) c.new-out.ensures.tokens c.in_ok-put_message.ensures c.into_inner.ensures.items

pub returns-clause-reads_back : goal.returns-clause-reads_back
returns-clause-reads_back c = is_read_back c.args.message.now c.into_inner.result.items (returns-clause-text c)

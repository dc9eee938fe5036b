use Rattle.std.proofs.Common.{length, ◌∙◌, sym, ap}
use Rattle.gi_store.specs.Heads.{head_text}
use Rattle.gi_store.proofs.Heads.{digest_of_text, length-text, not_none, not_so, number_of_text, same_some}
use Rattle.gi_store.proofs.head.Head.read.Goals as goal

pub returns-then-bytes-ne-LENGTH-clause-whole : goal.returns-then-bytes-ne-LENGTH-clause-whole
returns-then-bytes-ne-LENGTH-clause-whole c head is told = absurd (c.if-bytes-ne-LENGTH.true (ap length told ∙ length-text head is))

pub returns-in_err-head-clause-whole : goal.returns-in_err-head-clause-whole
returns-in_err-head-clause-whole c head is told = absurd (not_none c.in_err-head.was (c.parsed.ensures head is (number_of_text head _ is told) (digest_of_text head _ is told)))

pub returns-then-is_text-clause-whole : goal.returns-then-is_text-clause-whole
returns-then-is_text-clause-whole c head is told = sym c.in_ok-head.was ∙ c.parsed.ensures head is (number_of_text head _ is told) (digest_of_text head _ is told)

pub returns-else-is_text-clause-whole : goal.returns-else-is_text-clause-whole
returns-else-is_text-clause-whole c head is told =
    let same = same_some (sym c.in_ok-head.was ∙ c.parsed.ensures head is (number_of_text head _ is told) (digest_of_text head _ is told)) in
    absurd (not_so _ c.if-is_text.false (c.is_text.ensures.1 (told ∙ ap head_text (sym same))))

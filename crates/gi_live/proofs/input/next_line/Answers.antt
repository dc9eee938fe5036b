use Rattle.std.proofs.Common.{◌≡◌, [], arith}
use Rattle.std.proofs.lemmas.Grind.{common_steps}
use Rattle.gi_live.proofs.LineLemmas.{takes_end, takes_next}
use Rattle.gi_live.proofs.input.next_line.Goals as goal

pub returns-in-Ok-eq0-clause-line : goal.returns-in-Ok-eq0-clause-line
returns-in-Ok-eq0-clause-line g c =
    let none : c.read_until.new.buf.items ≡ [] =
    grind (arith, common_steps, c.in-Ok-eq0.ensures.ok, c.new-bytes.ensures.len, c.in-Ok-eq0.field-0-test, c.read_until.new.buf.ok) in
    takes_end _ _ c.new-bytes.result.items c.read_until.new.buf.items c.new-bytes.ensures.items c.in-Ok-eq0.ensures.bytes c.in-Ok-eq0.ensures.rest none

pub returns-in-Ok-clause-line : goal.returns-in-Ok-clause-line
returns-in-Ok-clause-line g c =
    takes_next _ _ c.new-bytes.result.items c.read_until.new.buf.items c.new-bytes.ensures.items c.in-Ok.ensures.bytes c.in-Ok.ensures.rest
    (λ none. let count : c.in-Ok.field-0 ≡ 0 = grind (arith, common_steps, c.in-Ok.ensures.ok, c.new-bytes.ensures.len, none, c.read_until.new.buf.ok) in c.in-Ok.field-0-test.1 count)

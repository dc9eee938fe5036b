use Rattle.std.proofs.Common.{◌∙◌, string_bytes, arith, sym}
use Rattle.std.proofs.lemmas.Result.{IfOk-weaker}
use Rattle.gi_picture.proofs.NumberLemmas.{groups_small, parts_are}
use Rattle.gi_picture.proofs.numbers.+groups.Goals as goal

pub returns-then-n-lt1000 : goal.returns-then-n-lt1000
returns-then-n-lt1000 t c = IfOk-weaker c.format-then-n-lt1000.result _ _ (λ text is. is ∙ sym (groups_small c.args.more c.args.n c.if-n-lt1000.true)) c.format-then-n-lt1000.ensures.ok

pub returns : goal.returns
returns t c =
    IfOk-weaker c.format-2.result _ _ (λ text is. is ∙ parts_are c.args.more c.args.n (string_bytes c.in_ok-front.front) (string_bytes c.in_ok-last.last) (omega (arith, c.if-more-eq0.false)) c.if-n-lt1000.false c.in_ok-front.ensures c.in_ok-last.ensures)
    c.format-2.ensures.ok

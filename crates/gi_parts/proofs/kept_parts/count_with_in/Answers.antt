use Rattle.std.proofs.Common.{arith, ◌+◌, ◌∙◌, ℕ, ap, sym}
use Rattle.gi_parts.proofs.Keeping.{count-more, count-there, few-with}
use Rattle.gi_parts.proofs.kept_parts.count_with_in.Goals as goal

pub returns-then-is_there-clause-value : goal.returns-then-is_there-clause-value
returns-then-is_there-clause-value c = c.count_in-have.ensures.value ∙ count-there c.args.id.now c.args.part.now c.args.kept.now (sym c.if-is_there.ensures)

pub returns-clause-value : goal.returns-clause-value
returns-clause-value c =
    ap (λ (n : ℕ). n + 1) c.count_in-have.ensures.value ∙ count-more c.args.id.now c.args.part.now c.args.kept.now (sym c.if-is_there.ensures)

pub returns-clause-few : goal.returns-clause-few
returns-clause-few c =
    let few = few-with c.args.id.now c.args.part.now c.args.kept.now c.requires.kept c.requires.part in
    let counted = c.count_in-have.ensures.value in
    let more = count-more c.args.id.now c.args.part.now c.args.kept.now (sym c.if-is_there.ensures) in
    omega (arith, few, counted, more)

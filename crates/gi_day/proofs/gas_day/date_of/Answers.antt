use Rattle.std.proofs.Common.{arith, ap, sym, ◌∙◌}
use Rattle.std.proofs.lemmas.Int.{ints}
use Rattle.jiff_fmt.specs.Text.{date_text}
use Rattle.gi_day.proofs.DayLemmas.{no_day-refused, same_parts, same_text, same_from_ne, differ_from_ne}
use Rattle.gi_day.proofs.gas_day.date_of.Goals as goal

pub returns-in_default : goal.returns-in_default
returns-in_default c = no_day-refused c.args.text.now c.in_default.field-0 c.in_default.ensures.value

pub returns-then-year-lt0 : goal.returns-then-year-lt0
returns-then-year-lt0 c date is =
    let same = same_parts c.args.text.now c.in-Ok.date date c.in-Ok.ensures.value is.1 in
    let year = ap (λ p. p.year) same in
    grind (arith, ints, c.year.ensures, c.if-year-lt0.true)

pub returns-then-ne : goal.returns-then-ne
returns-then-ne c date is =
    let same = same_text c.args.text.now c.in-Ok.date date c.in-Ok.ensures.value is.1 in
    differ_from_ne c.as_str.result.now c.args.text.now (sym c.ne.ensures ∙ c.if-ne.true)
    (c.as_str.ensures.value ∙ c.date_text-written.ensures ∙ ap date_text c.to_plain-date.ensures ∙ same)

pub returns : goal.returns
returns c =
    let same = same_from_ne c.as_str.result.now c.args.text.now (sym c.ne.ensures ∙ c.if-ne.false) in (
      grind (arith, ints, c.year.ensures, c.if-year-lt0.false),
      sym same ∙ c.as_str.ensures.value ∙ c.date_text-written.ensures,
    )

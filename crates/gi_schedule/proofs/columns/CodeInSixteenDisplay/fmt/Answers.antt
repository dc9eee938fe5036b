use Rattle.std.proofs.Common.{◌∙◌, List, ℕ, ap, subst, arith}
use Rattle.std.specs.Fmt.{HasWritten, styled_text}
use Rattle.gi_reports.specs.Columns.{left_in}
use Rattle.gi_schedule.proofs.ColumnLemmas.{sixteen_is}
use Rattle.gi_schedule.proofs.columns.CodeInSixteenDisplay.fmt.Goals as goal

pub returns-clause-writes : goal.returns-clause-writes
returns-clause-writes g c = λ plain ok.
    let name = c.name-name.result.now in
    subst (λ (text : List ℕ). HasWritten g.W.Write.write_str_gives c.args.f.now text c.write.new.self)
    (ap (λ spec. styled_text spec name) c.laid_out.ensures ∙ sixteen_is name c.name-name.ensures.ascii (omega (arith, c.name-name.ensures.short)) ∙ ap (left_in 16) c.name-name.ensures.value) (c.write.ensures.writes plain ok)

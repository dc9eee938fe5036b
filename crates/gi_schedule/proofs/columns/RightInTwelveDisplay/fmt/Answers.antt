use Rattle.std.proofs.Common.{◌∙◌, List, ℕ, ap, subst}
use Rattle.std.specs.Fmt.{HasWritten, styled_decimal}
use Rattle.gi_schedule.proofs.ColumnLemmas.{whole_is}
use Rattle.gi_schedule.proofs.columns.RightInTwelveDisplay.fmt.Goals as goal

pub returns-clause-writes : goal.returns-clause-writes
returns-clause-writes g c = λ plain ok.
    let number = c.args.self.now.number in
    subst (λ (text : List ℕ). HasWritten g.W.Write.write_str_gives c.args.f.now text c.write.new.self)
    (ap (λ spec. styled_decimal spec number) c.laid_out.ensures ∙ whole_is number) (c.write.ensures.writes plain ok)

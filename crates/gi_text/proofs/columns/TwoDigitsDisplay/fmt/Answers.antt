use Rattle.std.proofs.Common.{◌∙◌, List, ℕ, ap, subst}
use Rattle.std.specs.Fmt.{HasWritten, styled_decimal}
use Rattle.gi_text.proofs.ColumnLemmas.{digits_are}
use Rattle.gi_text.proofs.columns.TwoDigitsDisplay.fmt.Goals as goal

pub returns-clause-writes : goal.returns-clause-writes
returns-clause-writes g c = λ plain ok.
    let number = c.args.self.now.number in
    subst (λ (text : List ℕ). HasWritten g.W.Write.write_str_gives c.args.f.now text c.write.new.self)
    (ap (λ spec. styled_decimal spec number) c.laid_out.ensures ∙ digits_are number) (c.write.ensures.writes plain ok)

use Rattle.std.proofs.Common.{◌≡◌, ◌∙◌, ◌^◌, ◌-◌, List, ℕ, ap, subst, w64, rules}
use mir.Val.{of_z, to_z}
use Rattle.std.proofs.lemmas.Int.{to_z-of_z}
use Rattle.std.specs.Fmt.{HasWritten, format_spec, styled_signed_decimal}
use Rattle.gi_schedule.proofs.ColumnLemmas.{twelve_is}
use Rattle.gi_schedule.proofs.columns.SignedInTwelveDisplay.fmt.Goals as goal

pub returns-clause-writes : goal.returns-clause-writes
returns-clause-writes g c = λ plain ok.
    let number = c.args.self.now.number in
    let whole : to_z w64 (of_z w64 number) ≡ number = to_z-of_z w64 number (search rules) in
    subst (λ (text : List ℕ). HasWritten g.W.Write.write_str_gives c.args.f.now text c.write.new.self)
    (ap (λ spec. styled_signed_decimal spec (to_z w64 (of_z w64 number))) c.laid_out.ensures ∙ ap (styled_signed_decimal (format_spec 32 3 0 12 (2 ^ 64 - 1))) whole ∙ twelve_is number)
    (c.write.ensures.writes plain ok)

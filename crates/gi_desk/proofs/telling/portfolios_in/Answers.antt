use Rattle.std.proofs.Common.{rules, ◌≡◌, ◌∷◌, [], map, reverse, Bor, Some, sym, ap, ◌∙◌, subst}
use Rattle.std.specs.Prelude.{IfSome}
use Rattle.std.proofs.lemmas.List.{map-append, reverse-append}
use Rattle.gi_pairs.specs.declared.row.Row.{Row}
use Rattle.gi_desk.specs.Messages.{portfolios_in as portfolios_in_rows, with_code}
use Rattle.gi_desk.proofs.LettingOut.{with_code_twice}
use Rattle.gi_desk.proofs.telling.portfolios_in.Goals as goal

pub loop-row-preserved-then-not-is_that : goal.loop-row-preserved-then-not-is_that
loop-row-preserved-then-not-is_that c =
    let code = c.at-code.result in
    let seen = λ (row : Bor Row). row.now in
    let more = ap reverse (map-append seen c.loop-row.yielded (c.in-Some.row ∷ [])) ∙ reverse-append (map seen c.loop-row.yielded) (map seen (c.in-Some.row ∷ [])) in
    let grown = ap (portfolios_in_rows c.args.side) more ∙ ap (λ own. with_code own (portfolios_in_rows c.args.side (reverse (map seen c.loop-row.yielded)))) (sym c.at-code.ensures) in
    (c.in_ok-insert.ensures ∙ ap (with_code code) c.loop-row.invariant.0 ∙ sym grown, ap (with_code code) c.in_ok-insert.ensures ∙ with_code_twice code c.loop-row.codes.items ∙ sym c.in_ok-insert.ensures)

pub loop-row-preserved : goal.loop-row-preserved
loop-row-preserved c =
    let code = c.at-code.result in
    let seen = λ (row : Bor Row). row.now in
    let more = ap reverse (map-append seen c.loop-row.yielded (c.in-Some.row ∷ [])) ∙ reverse-append (map seen c.loop-row.yielded) (map seen (c.in-Some.row ∷ [])) in
    let grown = ap (portfolios_in_rows c.args.side) more ∙ ap (λ own. with_code own (portfolios_in_rows c.args.side (reverse (map seen c.loop-row.yielded)))) (sym c.at-code.ensures) in
    let is : c.loop-row.last ≡ Some code = search (rules, c.is_that.ensures) in
    let there : with_code code c.loop-row.codes.items ≡ c.loop-row.codes.items = subst (λ last. IfSome last (λ code. with_code code c.loop-row.codes.items ≡ c.loop-row.codes.items)) is c.loop-row.invariant.1 in
    (sym (grown ∙ ap (with_code code) (sym c.loop-row.invariant.0) ∙ there), c.loop-row.invariant.1)

use Rattle.std.proofs.Common.{List, take, sym, ap, subst, ◌∙◌, ◌++◌, [], ◌∷◌}
use Rattle.std.specs.List.{flat_map}
use Rattle.std.specs.List.Sorted.{IsPermutation}
use Rattle.std.specs.Str.{bytes_eq}
use Rattle.std.proofs.lemmas.List.{flat_map_more, take_all, take_more}
use Rattle.std.proofs.lemmas.List.Sorted.{IsPermutation-append_left, IsPermutation-trans, list_any-IsPermutation}
use Rattle.gi_pairs.specs.declared.row.Row.{Row}
use Rattle.gi_processing.specs.Processing.{portfolio_rows}
use Rattle.gi_processing.specs.Recording.{portfolios_of}
use Rattle.gi_processing.proofs.PortfolioLaws.{portfolios_of-distinct, rows-moved}
use Rattle.gi_processing.proofs.ProcessingLaws.{kept_from}
use Rattle.gi_processing.proofs.RowLaws.{moved-built, moved-few}
use Rattle.gi_processing.proofs.processing.rows_in_force.Goals as goal

pub loop-portfolio-preserved : goal.loop-portfolio-preserved
loop-portfolio-preserved c =
    let rows_for = portfolio_rows c.args.contracts.now c.args.span.now c.args.book.now.documents in
    let portfolios = c.portfolios-portfolio-items.result.now in
    let i = c.loop-portfolio.portfolio-index in
    let portfolio = c.portfolio-item.result in
    let so_far = flat_map rows_for (take i portfolios) in
    let more = flat_map_more rows_for [] (take i portfolios) portfolio
    ∙ ap (flat_map rows_for) ((λ t. take i portfolios ++ c.portfolio-item.is t ∷ []) ∙ sym (take_more portfolios i portfolio c.loop-portfolio-test.true)) in
    subst (λ (rows : List Row). IsPermutation rows c.add_portfolio.new.rows.items) more
    (IsPermutation-trans (so_far ++ rows_for portfolio) (c.loop-portfolio.rows.items ++ rows_for portfolio) c.add_portfolio.new.rows.items
    (IsPermutation-append_left (rows_for portfolio) so_far c.loop-portfolio.rows.items c.loop-portfolio.invariant) c.in_ok-add_portfolio.ensures)

pub returns-clause-rows : goal.returns-clause-rows
returns-clause-rows c =
    let portfolios = c.portfolios-portfolio-items in
    let known = portfolios_of c.args.contracts.now.contracts in
    let rows_for = portfolio_rows c.args.contracts.now c.args.span.now c.args.book.now.documents in
    let made : IsPermutation (flat_map rows_for portfolios.result.now) c.loop-portfolio.rows.items =
    subst (λ (rows : List Row). IsPermutation rows c.loop-portfolio.rows.items)
    (ap (flat_map rows_for) (take_all c.loop-portfolio.portfolio-index portfolios.result.now c.loop-portfolio-test.false)) c.loop-portfolio.invariant in
    IsPermutation-trans (flat_map rows_for known) (flat_map rows_for portfolios.result.now) c.loop-portfolio.rows.items
    (rows-moved rows_for known portfolios.result.now (portfolios_of-distinct c.args.contracts.now.contracts) portfolios.ensures.distinct
    (λ r. list_any-IsPermutation (bytes_eq r) known portfolios.result.now portfolios.ensures.value)) made

pub returns-clause-known : goal.returns-clause-known
returns-clause-known c =
    let portfolios = c.portfolios-portfolio-items in
    kept_from c.args.contracts.now c.args.book.now.documents c.args.span.now portfolios.result.now portfolios.ensures.value portfolios.ensures.few c.requires.span c.requires.sound

pub returns-clause-few : goal.returns-clause-few
returns-clause-few c = moved-few c.args.contracts.now c.args.book.now.documents c.args.span.now c.loop-portfolio.rows.items (returns-clause-known c) (returns-clause-rows c)

pub returns-clause-makes : goal.returns-clause-makes
returns-clause-makes c = moved-built c.args.contracts.now c.args.book.now.documents c.args.span.now c.loop-portfolio.rows.items (returns-clause-known c) (returns-clause-rows c)

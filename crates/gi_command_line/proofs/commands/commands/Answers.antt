use Rattle.std.proofs.Common.{◌∙◌, ap}
use Rattle.std.proofs.lemmas.Result.{IfOk-weaker}
use Rattle.clap.specs.Words.{App, with_subcommand}
use Rattle.gi_command_line.specs.CommandLine.{the_audit, the_book, the_explain, the_hours, the_match, the_office, the_page, the_report, the_serve, the_simulate}
use Rattle.gi_command_line.proofs.commands.commands.Goals as goal

pub returns : goal.returns
returns c =
    let one = c.in_ok-program.ensures ∙ ap (λ (a : App). with_subcommand a the_match.top) c.named_program-program.ensures in
    let two = c.in_ok-program-2.ensures ∙ ap (λ (a : App). with_subcommand a the_hours.top) one in
    let with_desks = λ (a : App). with_subcommand (with_subcommand a the_simulate.top) the_office.top in
    let three = c.in_ok-program-3.ensures ∙ ap with_desks two in
    let with_sides = λ (a : App). with_subcommand (with_subcommand (with_subcommand a the_report.top) the_explain.top) the_page.top in
    let four = c.in_ok-program-4.ensures ∙ ap with_sides three in
    let with_books = λ (a : App). with_subcommand (with_subcommand a the_audit.top) the_book.top in
    let five = c.in_ok-program-5.ensures ∙ ap with_books four in
    IfOk-weaker c.with_serve.result _ _ (λ program is. is ∙ ap (λ (a : App). with_subcommand a the_serve.top) five) c.with_serve.ensures

use Rattle.std.proofs.Common.{◌≡◌, ◌∙◌, ap}
use Rattle.std.proofs.lemmas.Result.{IfOk-at_ok, IfOk-weaker}
use Rattle.clap.specs.Words.{App, app_of, with_subcommand}
use Rattle.gi_command_line.proofs.Building.{third_is_not}
use Rattle.gi_command_line.proofs.commands.with.Goals as goal

-- (a plain command has nothing global)
pub returns-in-Ok : goal.returns-in-Ok
returns-in-Ok c sub is plain =
    let made : app_of c.in-Ok.command ≡ sub = IfOk-at_ok (λ it. app_of it ≡ sub) c.in-Ok.is is in
    let local = third_is_not _ _ _ _ (ap (λ (a : App). a.top.is_plain) made ∙ plain) in
    IfOk-weaker c.subcommand.result _ _
    (λ with adds. adds.shape local ∙ ap (λ (a : App). with_subcommand (app_of c.args.program) a.top) made)
    c.subcommand.ensures

use Rattle.std.proofs.Common.{inr}
use Rattle.std.proofs.lemmas.Result.{IfErr-weaker, on_ok_weaker}
use Rattle.gi_commands.proofs.commands.page.Goals as goal

pub returns-clause-done : goal.returns-clause-done
returns-clause-done g c = on_ok_weaker c.tell_desk.result (λ told. (c.in-Ok.day, c.in-Ok.ensures.exact, told)) c.tell_desk.ensures.done

pub returns-clause-first : goal.returns-clause-first
returns-clause-first g c =
    IfErr-weaker c.tell_desk.result _ _ (λ why is. inr (inr (c.in-Ok.day, c.in-Ok.ensures.exact, is))) c.tell_desk.ensures.first

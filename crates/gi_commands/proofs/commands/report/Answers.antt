use Rattle.std.proofs.Common.{inr}
use Rattle.std.proofs.lemmas.Result.{IfErr-weaker, on_ok_weaker}
use Rattle.gi_commands.proofs.commands.report.Goals as goal

pub returns-clause-done : goal.returns-clause-done
returns-clause-done g c = on_ok_weaker c.tell_desk.result (λ told. (c.in_ok-wanted.wanted, c.in_ok-wanted.ensures.wanted, told)) c.tell_desk.ensures.done

pub returns-clause-first : goal.returns-clause-first
returns-clause-first g c =
    IfErr-weaker c.tell_desk.result _ _ (λ why is. inr (inr (c.in_ok-wanted.wanted, c.in_ok-wanted.ensures.wanted, is))) c.tell_desk.ensures.first

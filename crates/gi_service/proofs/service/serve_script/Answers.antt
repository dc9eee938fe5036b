use Rattle.std.proofs.lemmas.Result.{IfErr-weaker, on_ok_weaker}
use Rattle.gi_service.proofs.Told.{first_of_run, first_served, left_command, left_of_run, may_be_told, of_whole}
use Rattle.gi_service.proofs.service.serve_script.Goals as goal

pub returns-in-Ok-clause-done : goal.returns-in-Ok-clause-done
returns-in-Ok-clause-done g c = on_ok_weaker c.ended.result (λ whole. of_whole _ _ _ _ c.in-Ok.done.0 c.in-Ok.ensures.served whole) c.ended.ensures.whole

pub returns-in-Ok-clause-first : goal.returns-in-Ok-clause-first
returns-in-Ok-clause-first g c =
    IfErr-weaker c.ended.result _ _ (λ why is. first_of_run _ _ _ _ c.in-Ok.done.0 c.in-Ok.done.1 why c.in-Ok.ensures.served is) c.ended.ensures.fault

pub returns-in-Ok-clause-dry : goal.returns-in-Ok-clause-dry
returns-in-Ok-clause-dry g c =
    IfErr-weaker c.ended.result _ _ (λ why is. may_be_told _ _ _ why c.in-Ok.ensures.dry is) c.ended.ensures.fault

pub returns-in-Ok-clause-leaves : goal.returns-in-Ok-clause-leaves
returns-in-Ok-clause-leaves g c =
    IfErr-weaker c.ended.result _ _ (λ why is. left_of_run _ _ _ _ c.in-Ok.done.0 c.in-Ok.done.1 why c.in-Ok.ensures.served is) c.ended.ensures.fault

pub returns-in-Err-clause-first : goal.returns-in-Err-clause-first
returns-in-Err-clause-first g c = first_served _ _ c.in-Err.fault c.in-Err.ensures.fault

pub returns-in-Err-clause-leaves : goal.returns-in-Err-clause-leaves
returns-in-Err-clause-leaves g c =
    left_command c.args.service.now.sessions (g.R.Read.remaining c.args.input.now) (g.W.Write.contents c.args.output.now) (g.W.Write.contents c.script_served.new.output) c.in-Err.fault
    c.in-Err.ensures.unwritten

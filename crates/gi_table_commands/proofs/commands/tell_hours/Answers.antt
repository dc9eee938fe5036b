use Rattle.std.proofs.Common.{string_bytes, subst, sym}
use Rattle.std.proofs.lemmas.Result.{IfErr-weaker, on_ok_weaker}
use Rattle.gi_table_commands.specs.Hours.{IsFirstHoursFault}
use Rattle.gi_table_commands.specs.Leaving.{LeavesNothing}
use Rattle.gi_table_commands.specs.declared.fault.Fault.{Fault}
use Rattle.gi_table_commands.proofs.commands.tell_hours.Goals as goal

pub returns-clause-done : goal.returns-clause-done
returns-clause-done g c =
    on_ok_weaker c.write_text.result
    (λ appends. (string_bytes c.in_ok-text.text, c.in_ok-text.ensures.text, rw c.as_bytes.ensures.value at appends))
    c.write_text.ensures.written

pub returns-clause-leaves : goal.returns-clause-leaves
returns-clause-leaves g c =
    let leaves = LeavesNothing (g.W.Write.contents c.args.output.now) (g.W.Write.contents c.write_text.new.output) in
    IfErr-weaker c.write_text.result _ _ (λ fault is. subst (λ (why : Fault). leaves why) (sym is) tt) c.write_text.ensures.failed

pub returns-clause-first : goal.returns-clause-first
returns-clause-first g c =
    IfErr-weaker c.write_text.result _ _
    (λ fault is. subst (λ (why : Fault). IsFirstHoursFault c.args.day.now why) (sym is)
    (string_bytes c.in_ok-text.text, c.in_ok-text.ensures.text))
    c.write_text.ensures.failed

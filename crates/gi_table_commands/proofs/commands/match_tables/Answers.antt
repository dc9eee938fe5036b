use Rattle.std.proofs.Common.{sym, subst}
use Rattle.std.specs.Prelude.{IfSome}
use Rattle.std.proofs.lemmas.Result.{IfErr-weaker, on_ok_weaker}
use Rattle.gi_table_commands.proofs.CommandLemmas.{write_fails, wrote}
use Rattle.gi_table_commands.specs.Match.{IsAnswer, IsFirstFault}
use Rattle.gi_table_commands.specs.declared.fault.Fault.{Fault}
use Rattle.gi_table_commands.proofs.commands.match_tables.Goals as goal

pub returns-clause-done : goal.returns-clause-done
returns-clause-done g c =
    on_ok_weaker c.write_text.result (λ appends.
    wrote IsAnswer _ _ _ c.in_ok-bytes.bytes.items c.in_ok-text.text.items c.in_ok-bytes.ensures.whole
    c.in_ok-bytes.ensures.within (rw c.as_slice.ensures.value at c.in_ok-text.ensures.text)
    (rw c.as_slice-2.ensures.value at appends)) c.write_text.ensures.written

pub returns-clause-first : goal.returns-clause-first
returns-clause-first g c =
    let fails = write_fails _ c.in_ok-bytes.bytes.items c.in_ok-text.text.items c.in_ok-bytes.ensures.whole
    c.in_ok-bytes.ensures.within (rw c.as_slice.ensures.value at c.in_ok-text.ensures.text) in
    IfErr-weaker c.write_text.result _ _ (λ fault is. subst (λ (why : Fault). IfSome (g.R.Read.remaining c.args.input.now) (λ bytes. IsFirstFault bytes why)) (sym is) fails) c.write_text.ensures.failed

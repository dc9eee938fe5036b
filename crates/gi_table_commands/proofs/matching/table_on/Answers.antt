use Rattle.std.proofs.Common.{refl, sym, subst}
use Rattle.std.proofs.lemmas.Result.{IfErr-weaker, IfOk-weaker}
use Rattle.gi_table_commands.specs.Match.{IsLineFault, SpellsWhole}
use Rattle.gi_table_commands.proofs.MatchLemmas.{few_rows}
use Rattle.gi_table_commands.proofs.matching.table_on.Goals as goal

pub returns-in-Ok-Delord-clause-spelled : goal.returns-in-Ok-Delord-clause-spelled
returns-in-Ok-Delord-clause-spelled c =
    let spelled = rw c.in-Ok-Delord.field-0-is at c.in-Ok-Delord.ensures.found in
    IfOk-weaker c.whole.result _ _
    (λ taken is. subst (SpellsWhole c.args.bytes.now) (sym is.0) (record { spelled = spelled; whole = is.1 }))
    c.whole.ensures.taken

pub returns-in-Ok-Delord-clause-few_rows : goal.returns-in-Ok-Delord-clause-few_rows
returns-in-Ok-Delord-clause-few_rows c =
    IfOk-weaker c.whole.result _ _ (few_rows c.args.bytes.now) (returns-in-Ok-Delord-clause-spelled c)

pub returns-in-Ok-Delord-clause-refused : goal.returns-in-Ok-Delord-clause-refused
returns-in-Ok-Delord-clause-refused c =
    let spelled = rw c.in-Ok-Delord.field-0-is at c.in-Ok-Delord.ensures.found in
    IfErr-weaker c.whole.result _ _
    (λ fault is. subst (IsLineFault c.args.line c.args.bytes.now) (sym is.0)
    (refl, record { found = c.in-Ok-Delord.table; spelled = spelled; several = is.1 }))
    c.whole.ensures.refused

pub returns-in-Ok-Nomint-clause-refused : goal.returns-in-Ok-Nomint-clause-refused
returns-in-Ok-Nomint-clause-refused c = (
  refl,
  record {
    found = c.in-Ok-Nomint.field-0;
    spelled = c.in-Ok-Nomint.ensures.found;
    other = λ table same. let nomint = c.in-Ok-Nomint.field-0-is in cc;
  },
)

pub returns-in-Ok-Acknow-clause-refused : goal.returns-in-Ok-Acknow-clause-refused
returns-in-Ok-Acknow-clause-refused c = (
  refl,
  record {
    found = c.in-Ok-Acknow.field-0;
    spelled = c.in-Ok-Acknow.ensures.found;
    other = λ table same. let acknow = c.in-Ok-Acknow.field-0-is in cc;
  },
)

pub returns-in-Ok-Nomres-clause-refused : goal.returns-in-Ok-Nomres-clause-refused
returns-in-Ok-Nomres-clause-refused c = (
  refl,
  record {
    found = c.in-Ok-Nomres.field-0;
    spelled = c.in-Ok-Nomres.ensures.found;
    other = λ table same. let nomres = c.in-Ok-Nomres.field-0-is in cc;
  },
)

pub returns-in-Ok-Delres-clause-refused : goal.returns-in-Ok-Delres-clause-refused
returns-in-Ok-Delres-clause-refused c = (
  refl,
  record {
    found = c.in-Ok-Delres.field-0;
    spelled = c.in-Ok-Delres.ensures.found;
    other = λ table same. let delres = c.in-Ok-Delres.field-0-is in cc;
  },
)

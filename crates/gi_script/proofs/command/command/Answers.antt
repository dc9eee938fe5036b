use Rattle.std.proofs.Common.{◌≡◌, Err, rules}
use Rattle.gi_script.specs.Grammar.{Says, SaysCount, SaysNumber}
use Rattle.gi_script.specs.declared.verb.Verb.TheVariants as verbs
use Rattle.gi_script.proofs.TakeLemmas.{call_says, no_call_says, none_read}
use Rattle.gi_script.proofs.command.command.Goals as goal

pub returns-in_err-ok_or-in-Save : goal.returns-in_err-ok_or-in-Save
returns-in_err-ok_or-in-Save c =
    let why = c.in_err-ok_or-in-Save.field-0.0 in
    let refused : c.from_residual.result ≡ Err why = search rules in
    rw (c.in-Save.is, refused) (none_read (SaysCount c.args.words) (Says verbs.Save c.args.side c.args.words) c.count.result why c.count.ensures (λ x says. (says.0, says.2)) c.in_err-ok_or-in-Save.ensures.value)

pub returns-in_err-ok_or-in-Deliver : goal.returns-in_err-ok_or-in-Deliver
returns-in_err-ok_or-in-Deliver c =
    let why = c.in_err-ok_or-in-Deliver.field-0.0 in
    let refused : c.from_residual-in_err-ok_or-in-Deliver.result ≡ Err why = search rules in
    rw (c.in-Deliver.is, refused) (none_read (SaysNumber c.args.words) (Says verbs.Deliver c.args.side c.args.words) c.number.result why c.number.ensures (λ x says. (says.0, says.2)) c.in_err-ok_or-in-Deliver.ensures.value)

pub returns-in_err-ok_or-in-Restart : goal.returns-in_err-ok_or-in-Restart
returns-in_err-ok_or-in-Restart c =
    let why = c.in_err-ok_or-in-Restart.field-0.0 in
    let refused : c.from_residual-in_err-ok_or-in-Restart.result ≡ Err why = search rules in
    rw (c.in-Restart.is, refused) (none_read (SaysNumber c.args.words) (Says verbs.Restart c.args.side c.args.words) c.number-in-Restart.result why c.number-in-Restart.ensures (λ x says. (says.0, says.2)) c.in_err-ok_or-in-Restart.ensures.value)

pub returns-in_err-call-in_default : goal.returns-in_err-call-in_default
returns-in_err-call-in_default c =
    let why = c.in_err-call-in_default.field-0.0 in
    let refused : c.from_residual-in_err-call-in_default.result ≡ Err why = search rules in
    let other = c.in_default in
    rw refused (no_call_says c.args.verb c.args.side c.args.words why other.not-Save other.not-Deliver other.not-Restart other.not-Carry c.in_err-call-in_default.ensures)

pub returns-in_ok-call-in_default : goal.returns-in_ok-call-in_default
returns-in_ok-call-in_default c =
    let other = c.in_default in
    call_says c.args.verb c.args.side c.args.words c.in_ok-call-in_default.field-0 other.not-Save other.not-Deliver other.not-Restart other.not-Carry c.in_ok-call-in_default.ensures

use Rattle.std.proofs.Common.{◌≡◌, Err, refl, rules}
use Rattle.gi_pairs.specs.declared.cycle_id.CycleId.{CycleId}
use Rattle.gi_processing.specs.declared.rule.Rule.{Rule}
use Rattle.gi_script.specs.Grammar.{SaysCall, SaysClosing, SaysContract, SaysCycle, SaysNotice}
use Rattle.gi_script.specs.declared.verb.Verb.TheVariants as verbs
use Rattle.gi_script.proofs.TakeLemmas.{found_read, none_read}
use Rattle.gi_script.proofs.command.call.Goals as goal

pub returns-in_err-ok_or-in-Contract : goal.returns-in_err-ok_or-in-Contract
returns-in_err-ok_or-in-Contract c =
    let why = c.in_err-ok_or-in-Contract.field-0.0 in
    let refused : c.from_residual.result ≡ Err why = search rules in
    rw (c.in-Contract.is, refused) (none_read (SaysContract c.args.words) (SaysCall verbs.Contract c.args.words) c.contract.result why c.contract.ensures (λ x says. (says.0, says.2)) c.in_err-ok_or-in-Contract.ensures.value)

pub returns-in_ok-ok_or-in-Contract : goal.returns-in_ok-ok_or-in-Contract
returns-in_ok-ok_or-in-Contract c =
    let found = c.in_ok-ok_or-in-Contract.field-0 in rw (c.in-Contract.is) (found, refl, found_read (SaysContract c.args.words) c.contract.result found c.contract.ensures c.in_ok-ok_or-in-Contract.ensures.value)

pub returns-in_err-ok_or-in-Notice : goal.returns-in_err-ok_or-in-Notice
returns-in_err-ok_or-in-Notice c =
    let why = c.in_err-ok_or-in-Notice.field-0.0 in
    let refused : c.from_residual-in_err-ok_or-in-Notice.result ≡ Err why = search rules in
    rw (c.in-Notice.is, refused) (none_read (SaysNotice c.args.words) (SaysCall verbs.Notice c.args.words) c.notice.result why c.notice.ensures (λ x says. (says.0, says.2)) c.in_err-ok_or-in-Notice.ensures.value)

pub returns-in_ok-ok_or-in-Notice : goal.returns-in_ok-ok_or-in-Notice
returns-in_ok-ok_or-in-Notice c =
    let found = c.in_ok-ok_or-in-Notice.field-0 in rw (c.in-Notice.is) (found, refl, found_read (SaysNotice c.args.words) c.notice.result found c.notice.ensures c.in_ok-ok_or-in-Notice.ensures.value)

pub returns-in_err-ok_or-in-Close : goal.returns-in_err-ok_or-in-Close
returns-in_err-ok_or-in-Close c =
    let why = c.in_err-ok_or-in-Close.field-0.0 in
    let refused : c.from_residual-in_err-ok_or-in-Close.result ≡ Err why = search rules in
    rw (c.in-Close.is, refused) (none_read (λ (x : CycleId × Rule). SaysClosing c.args.words x.0 x.1) (SaysCall verbs.Close c.args.words) c.closing.result why c.closing.ensures (λ x says. (says.0, says.2)) c.in_err-ok_or-in-Close.ensures.value)

pub returns-in_ok-ok_or-in-Close : goal.returns-in_ok-ok_or-in-Close
returns-in_ok-ok_or-in-Close c =
    let found = c.in_ok-ok_or-in-Close.field-0 in rw (c.in-Close.is, c.close.ensures) (found, refl, found_read (λ (x : CycleId × Rule). SaysClosing c.args.words x.0 x.1) c.closing.result found c.closing.ensures c.in_ok-ok_or-in-Close.ensures.value)

pub returns-in_err-ok_or-in-Resend : goal.returns-in_err-ok_or-in-Resend
returns-in_err-ok_or-in-Resend c =
    let why = c.in_err-ok_or-in-Resend.field-0.0 in
    let refused : c.from_residual-in_err-ok_or-in-Resend.result ≡ Err why = search rules in
    rw (c.in-Resend.is, refused) (none_read (SaysCycle c.args.words) (SaysCall verbs.Resend c.args.words) c.cycle.result why c.cycle.ensures (λ x says. (says.0, says.2)) c.in_err-ok_or-in-Resend.ensures.value)

pub returns-in_ok-ok_or-in-Resend : goal.returns-in_ok-ok_or-in-Resend
returns-in_ok-ok_or-in-Resend c =
    let found = c.in_ok-ok_or-in-Resend.field-0 in rw (c.in-Resend.is) (found, refl, found_read (SaysCycle c.args.words) c.cycle.result found c.cycle.ensures c.in_ok-ok_or-in-Resend.ensures.value)

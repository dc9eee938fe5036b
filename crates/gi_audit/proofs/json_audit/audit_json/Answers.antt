use Rattle.gi_audit.proofs.Verdicts.{verdict-exactly, verdict-is, verdict-told}
use Rattle.gi_audit.proofs.json_audit.audit_json.Goals as goal

pub returns-clause-verdict : goal.returns-clause-verdict
returns-clause-verdict c =
    let s = c.args.initiating.now in
    let t = c.args.matching.now in
    let ids = c.in_ok-ids.ids.items in
    let verdict = c.of-verdict.result in
    let is = verdict-is s t ids c.deref.result.now c.deref-2.result.now c.in_ok-text.field-0.first c.in_ok-text.field-0.agreed verdict
    c.deref.ensures.value c.deref-2.ensures.value c.in_ok-text.ensures.first c.in_ok-text.ensures.agreed c.of-verdict.ensures in
    verdict-exactly s t ids verdict c.reveal_invariant.ensures.legal c.reveal_invariant-2.ensures.legal c.in_ok-ids.ensures is

pub returns-clause-told : goal.returns-clause-told
returns-clause-told c =
    let s = c.args.initiating.now in
    let t = c.args.matching.now in
    let ids = c.in_ok-ids.ids.items in
    let verdict = c.of-verdict.result in
    let is = verdict-is s t ids c.deref.result.now c.deref-2.result.now c.in_ok-text.field-0.first c.in_ok-text.field-0.agreed verdict
    c.deref.ensures.value c.deref-2.ensures.value c.in_ok-text.ensures.first c.in_ok-text.ensures.agreed c.of-verdict.ensures in
    verdict-told s t ids verdict c.reveal_invariant.ensures.legal c.reveal_invariant-2.ensures.legal c.in_ok-ids.ensures is

pub returns-clause-one_quantity : goal.returns-clause-one_quantity
returns-clause-one_quantity c = λ none.
    let s = c.args.initiating.now in
    let t = c.args.matching.now in
    let ids = c.in_ok-ids.ids.items in
    let verdict = c.of-verdict.result in
    let is = verdict-is s t ids c.deref.result.now c.deref-2.result.now c.in_ok-text.field-0.first c.in_ok-text.field-0.agreed verdict
    c.deref.ensures.value c.deref-2.ensures.value c.in_ok-text.ensures.first c.in_ok-text.ensures.agreed c.of-verdict.ensures in
    let exactly = verdict-exactly s t ids verdict c.reveal_invariant.ensures.legal c.reveal_invariant-2.ensures.legal c.in_ok-ids.ensures is in
    c.agreeing_desks_confirm_one_quantity.ensures s t c.reveal_invariant.ensures.legal c.reveal_invariant-2.ensures.legal c.reveal_invariant.ensures.fits c.reveal_invariant-2.ensures.fits (exactly.0 none)

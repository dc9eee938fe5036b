use Rattle.std.proofs.Common.{◌∙◌, Option, Some, ap, sym}
use Rattle.std.proofs.lemmas.Option.{none-some}
use Rattle.gi_processing.specs.Capacity.{available, left_of, notice_of}
use Rattle.gi_processing.specs.declared.contract.Contract.{Contract}
use Rattle.gi_processing.specs.declared.hours_left.Thousandths.{Thousandths}
use Rattle.gi_processing.specs.declared.notice.Notice.{Notice}
use Rattle.gi_processing.proofs.KeptLaws.{left-is, left_with, whole_parts}
use Rattle.gi_processing.proofs.LastRecorded.{no_contract, no_notice}
use Rattle.gi_processing.proofs.contracts.Contracts.available.Goals as goal

pub returns-in-Some-clause-value : goal.returns-in-Some-clause-value
unfolding available
returns-in-Some-clause-value c =
    let notice = notice_of c.args.day c.args.direction c.args.hour c.args.self.now.notices in
    c.parts.ensures.value
    ∙ ap (λ (l : Thousandths). left_with (Some c.in-Some.contract) l) c.left.ensures.value
    ∙ sym (left-is (Some c.in-Some.contract) notice)
    ∙ ap (λ (o : Option Contract). left_of o notice) (sym c.in-Some.is ∙ c.contract.ensures)

pub returns-in-Some-clause-no_contract : goal.returns-in-Some-clause-no_contract
returns-in-Some-clause-no_contract c e =
    absurd (none-some c.in-Some.contract (sym (no_contract c.args.portfolio c.args.day c.args.direction c.args.self.now.contracts e) ∙ sym c.contract.ensures ∙ c.in-Some.is))

pub returns-in-Some-clause-no_notice : goal.returns-in-Some-clause-no_notice
unfolding available
returns-in-Some-clause-no_notice c contract is e =
    let none = no_notice c.args.day c.args.direction c.args.hour c.args.self.now.notices e in
    returns-in-Some-clause-value c
    ∙ ap (λ (o : Option Contract). left_of o (notice_of c.args.day c.args.direction c.args.hour c.args.self.now.notices)) is
    ∙ ap (λ (n : Option Notice). left_of (Some contract) n) none
    ∙ whole_parts contract

pub returns-in-None-clause-value : goal.returns-in-None-clause-value
unfolding available
returns-in-None-clause-value c =
    ap (λ (o : Option Contract). left_of o (notice_of c.args.day c.args.direction c.args.hour c.args.self.now.notices)) (sym c.in-None.is ∙ c.contract.ensures)

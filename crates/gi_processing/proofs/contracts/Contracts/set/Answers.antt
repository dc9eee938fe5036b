use Rattle.std.proofs.Common.{◌≡◌, ◌∙◌, List, ℕ, false, Some, [], ◌∷◌, ◌++◌, ap, sym, subst, refl, true, None}
use Rattle.std.specs.BTreeMap.{Updates, get}
use Rattle.std.specs.List.Sorted.{IsPermutation}
use Rattle.std.proofs.lemmas.List.Sorted.{IsPermutation-trans}
use Rattle.gi_processing.specs.Capacity.{Capacity, has_contract}
use Rattle.gi_processing.specs.Kept.{contract_cmp, contracts_in, notices_in}
use Rattle.gi_processing.specs.Recording.{ContractStands, is_refused, portfolios_of, with_portfolio}
use Rattle.gi_processing.specs.declared.contract_key.ContractKey.{ContractKey}
use Rattle.gi_processing.specs.declared.contracted.Contracted.{Contracted}
use Rattle.gi_processing.specs.declared.hours_left.HoursLeft.{HoursLeft}
use Rattle.gi_processing.specs.declared.notice_key.NoticeKey.{NoticeKey}
use Rattle.gi_processing.proofs.KeptLaws.{contract-absent, contract-set}
use Rattle.gi_processing.proofs.LastRecorded.{contract_stands}
use Rattle.gi_processing.proofs.PortfolioLaws.{portfolios_of-more, refused-tested, with_portfolio-moved}
use Rattle.gi_processing.proofs.ReadingLaws.{records-contract, replaced-taken, same_portfolios}
use Rattle.gi_processing.proofs.contracts.Contracts.set.Goals as goal

pub returns-then-is_too_many-clause-refused : goal.returns-then-is_too_many-clause-refused
returns-then-is_too_many-clause-refused c =
    let tested = refused-tested c.self.inside.portfolios (contracts_in c.self.inside.contracts.entries) c.args.self.now c.args.contract c.is_too_many.result
    c.self.invariant.portfolios (ap (λ (v : Capacity). v.contracts) c.self.view_is) c.is_too_many.ensures in
    let refused = sym tested ∙ c.if-is_too_many.true in
    ((λ e. refused), (λ e. refl))

pub returns-in_default-clause-refused : goal.returns-in_default-clause-refused
returns-in_default-clause-refused c =
    let tested = refused-tested c.self.inside.portfolios (contracts_in c.self.inside.contracts.entries) c.args.self.now c.args.contract c.is_too_many.result
    c.self.invariant.portfolios (ap (λ (v : Capacity). v.contracts) c.self.view_is) c.is_too_many.ensures in
    let taken : is_refused c.args.contract c.args.self.now.contracts ≡ false = sym tested ∙ c.if-is_too_many.false in
    ((λ e. cc), (λ e. cc))

pub returns-clause-refused : goal.returns-clause-refused
returns-clause-refused c =
    let tested = refused-tested c.self.inside.portfolios (contracts_in c.self.inside.contracts.entries) c.args.self.now c.args.contract c.is_too_many.result
    c.self.invariant.portfolios (ap (λ (v : Capacity). v.contracts) c.self.view_is) c.is_too_many.ensures in
    let taken : is_refused c.args.contract c.args.self.now.contracts ≡ false = sym tested ∙ c.if-is_too_many.false in
    ((λ e. cc), (λ e. cc))

-- the contract stands among those that are kept
stands : (c : goal.After-add) → ContractStands (contracts_in c.self.inside.contracts.entries) (contracts_in c.insert.new.self.entries) c.args.contract
stands c =
    let updates : Updates contract_cmp c.self.inside.contracts c.insert.new.self c.key.result (Some c.contracted.result) = c.in-Ok.ensures.updates in
    contract-set c.self.inside.contracts c.insert.new.self c.args.contract
    (subst (λ (k : ContractKey). Updates contract_cmp c.self.inside.contracts c.insert.new.self k (Some (record { firm = c.args.contract.firm; interruptible = c.args.contract.interruptible }))) c.key.ensures
    (subst (λ (v : Contracted). Updates contract_cmp c.self.inside.contracts c.insert.new.self c.key.result (Some v)) c.contracted.ensures updates))

pub invariant_of-self-2 : goal.invariant_of-self-2
invariant_of-self-2 c =
    let old = contracts_in c.self.inside.contracts.entries in
    let new = contracts_in c.insert.new.self.entries in
    let contract = c.args.contract in
    let listed = same_portfolios new (old ++ contract ∷ [])
    (λ portfolio day direction. stands c portfolio day direction ∙ sym (contract_stands old contract portfolio day direction)) in
    let more = subst (λ (ps : List (List ℕ)). IsPermutation (portfolios_of new) ps) (portfolios_of-more old contract) listed in
    record {
      portfolios = subst (λ (ps : List (List ℕ)). IsPermutation (portfolios_of new) ps) (sym c.add.ensures)
          (IsPermutation-trans (portfolios_of new) (with_portfolio (portfolios_of old) contract.portfolio) (with_portfolio c.self.inside.portfolios contract.portfolio) more
          (with_portfolio-moved contract.portfolio (portfolios_of old) c.self.inside.portfolios c.self.invariant.portfolios));
      ordered = c.self.invariant.ordered;
      left = c.self.invariant.left;
    }

pub returns-clause-stands : goal.returns-clause-stands
returns-clause-stands c =
    subst (λ (v : Capacity). ContractStands v.contracts (contracts_in c.insert.new.self.entries) c.args.contract) c.self.view_is (stands c)

pub returns-clause-reads : goal.returns-clause-reads
returns-clause-reads c =
    let new : Capacity = record { contracts = contracts_in c.insert.new.self.entries; notices = notices_in c.self.inside.notices.entries } in
    records-contract c.args.self.now new c.args.contract (returns-clause-stands c) (ap (λ (v : Capacity). v.notices) c.self.view_is)

pub returns-then-is_too_many-clause-replaces : goal.returns-then-is_too_many-clause-replaces
returns-then-is_too_many-clause-replaces c has =
    let tested = refused-tested c.self.inside.portfolios (contracts_in c.self.inside.contracts.entries) c.args.self.now c.args.contract c.is_too_many.result
    c.self.invariant.portfolios (ap (λ (v : Capacity). v.contracts) c.self.view_is) c.is_too_many.ensures in
    let refused : true ≡ false = sym c.if-is_too_many.true ∙ tested ∙ replaced-taken c.args.contract c.args.self.now.contracts has in cc

pub returns-in_default-clause-replaces : goal.returns-in_default-clause-replaces
returns-in_default-clause-replaces c has =
    let contract = c.args.contract in
    let none : get contract_cmp c.self.inside.contracts c.key.result ≡ None = c.in_default.ensures.absent in
    let own = ap (λ (k : ContractKey). get contract_cmp c.self.inside.contracts k) (sym c.key.ensures) ∙ none in
    let absent = contract-absent contract.portfolio contract.day contract.direction c.self.inside.contracts own in
    sym absent ∙ ap (λ (v : Capacity). has_contract contract.portfolio contract.day contract.direction v.contracts) c.self.view_is ∙ has

pub invariant_of-self : goal.invariant_of-self
invariant_of-self c =
    record {
      portfolios = subst (λ (entries : List (ContractKey × Contracted)). IsPermutation (portfolios_of (contracts_in entries)) c.self.inside.portfolios) (sym c.in_default.ensures.err) c.self.invariant.portfolios;
      ordered = c.self.invariant.ordered;
      left = c.self.invariant.left;
    }

abbrev with_contracts : List (ContractKey × Contracted) → List (NoticeKey × HoursLeft) → Capacity
with_contracts contracts notices = record { contracts = contracts_in contracts; notices = notices_in notices }

pub returns-in_default-clause-unchanged : goal.returns-in_default-clause-unchanged
returns-in_default-clause-unchanged c =
    ap (λ (entries : List (ContractKey × Contracted)). with_contracts entries c.self.inside.notices.entries) c.in_default.ensures.err ∙ c.self.view_is

pub returns-clause-notices : goal.returns-clause-notices
returns-clause-notices c = ap (λ (v : Capacity). v.notices) c.self.view_is

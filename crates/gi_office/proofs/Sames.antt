-- Facts of one kind are equal exactly where what they are of is.
use Rattle.std.proofs.Common.{◌≡◌, ◌↔◌, ℕ, ap, sym, ◌∙◌}
use Rattle.gi_pairs.specs.declared.cycle_id.CycleId.{CycleId}
use Rattle.gi_processing.specs.declared.contract.Contract.{Contract}
use Rattle.gi_processing.specs.declared.notice.Notice.{Notice}
use Rattle.gi_processing.specs.declared.rule.Rule.{Rule}
use Rattle.gi_processing.specs.declared.rule.Rule.TheVariants.{One}
use Rattle.gi_facts.specs.declared.fact.Fact.{Fact}
use Rattle.gi_facts.specs.declared.fact.Fact.TheVariants.{Contracted, Noticed, Closed}
use Rattle.gi_desk.specs.declared.call.Call.{Call}
use Rattle.gi_desk.specs.declared.call.Call.TheVariants.{Close, MarkSaved}

abbrev pub contract_of : Contract → Fact → Contract
contract_of c (Contracted contract) = contract
contract_of c other = c

abbrev pub notice_of : Notice → Fact → Notice
notice_of n (Noticed notice) = notice
notice_of n other = n

abbrev pub cycle_of : CycleId → Fact → CycleId
cycle_of i (Closed id rule) = id
cycle_of i other = i

pub contracts : (P : Type 0) (a b : Contract) → P ↔ (Contracted a ≡ Contracted b) → P ↔ (a ≡ b)
contracts P a b same = (λ p. ap (contract_of a) (same.0 p), λ e. same.1 (ap Contracted e))

pub notices : (P : Type 0) (a b : Notice) → P ↔ (Noticed a ≡ Noticed b) → P ↔ (a ≡ b)
notices P a b same = (λ p. ap (notice_of a) (same.0 p), λ e. same.1 (ap Noticed e))

pub cycles : (P : Type 0) (a b : CycleId) → P ↔ (Closed a One ≡ Closed b One) → P ↔ (a ≡ b)
cycles P a b same = (λ p. ap (cycle_of a) (same.0 p), λ e. same.1 (ap (λ (id : CycleId). Closed id One) e))

-- closings as facts and as calls
abbrev pub closed_by : Fact → Call → Fact
closed_by f (Close id rule) = Closed id rule
closed_by f other = f

abbrev pub close_of : Call → Fact → Call
close_of c (Closed id rule) = Close id rule
close_of c other = c

pub closings : (P : Type 0) (a b : CycleId) (r s : Rule) → P ↔ (Closed a r ≡ Closed b s) → P ↔ (Close a r ≡ Close b s)
closings P a b r s same = (λ p. ap (close_of (Close a r)) (same.0 p), λ e. same.1 (ap (closed_by (Closed a r)) e))

abbrev pub marked_of : Fact → Call → Fact
marked_of f (MarkSaved n fact) = fact
marked_of f other = f

pub marks :
    (P : Type 0) (n m : ℕ) (a b : Fact) (call other : Call) → call ≡ MarkSaved n a → other ≡ MarkSaved m b → n ≡ m → P ↔ (a ≡ b) → P ↔ (call ≡ other)
marks P n m a b call other first second number same =
    (λ p. first ∙ (λ i. MarkSaved (number i) (same.0 p i)) ∙ sym second, λ e. same.1 (ap (marked_of a) (sym first ∙ e ∙ second)))

-- What is kept reads as what was recorded, before a call and after it, and so does all that is asked of it.
use Rattle.std.proofs.Common.{◌≡◌, ◌||◌, ◌&&◌, if◌then◌else◌, List, [], ◌∷◌, Bool, true, false, Option, Some, is_some, ℕ, length, nat_le, not, refl, sym, ap, subst, ◌∙◌, inl, inr}
use Rattle.std.specs.List.{list_any}
use Rattle.std.specs.List.Sorted.{IsPermutation}
use Rattle.std.specs.Str.{bytes_eq}
use Rattle.std.proofs.lemmas.List.Sorted.{length_permutation}
use Rattle.std.proofs.lemmas.Slice.Eq.{bytes_eq-Decides}
use Rattle.jiff_core.specs.declared.civil.date.Date.{Date}
use Rattle.gi_pairs.specs.declared.direction.Direction.{Direction}
use Rattle.gi_pairs.specs.declared.direction.Direction.TheVariants.{IM, MI}
use Rattle.gi_pairs.proofs.Building.{In}
use Rattle.gi_processing.specs.Capacity.{Capacity, available, contract_of, covers, has_contract, is_for, is_of, knows, left_of, notice_of, same_direction}
use Rattle.gi_processing.specs.CapacityLimits.{most_portfolios}
use Rattle.gi_processing.specs.Readings.{ReadsAs, RecordsContract, RecordsNotice}
use Rattle.gi_processing.specs.Recording.{ContractStands, NoticeStands, has_any_contract, is_refused, portfolios_of}
use Rattle.gi_processing.specs.declared.contract.Contract.{Contract}
use Rattle.gi_processing.specs.declared.notice.Notice.{Notice}
use Rattle.gi_processing.specs.declared.contract_key.ContractKey.{ContractKey}
use Rattle.gi_processing.proofs.KeyLaws.{is_for-own, key_from_test}
use Rattle.gi_processing.proofs.LastRecorded.{contract_stands, has_contract-is, notice_stands}
use Rattle.gi_processing.proofs.PortfolioLaws.{has_any_contract-is, portfolios_of-distinct, same_members}

-- what is recorded reads as itself, so nothing as nothing
pub reads-self : (capacity : Capacity) → ReadsAs capacity capacity
reads-self capacity = record { contracts = λ portfolio day direction. refl; left = λ contract day direction hour. refl }

-- ---- what is recorded

-- a contract that stands is recorded
pub records-contract : (old new : Capacity) (contract : Contract) → ContractStands old.contracts new.contracts contract → new.notices ≡ old.notices → RecordsContract old new contract
records-contract old new contract stands notices recorded reads = record {
  contracts = λ portfolio day direction.
      stands portfolio day direction
      ∙ ap (λ (o : Option Contract). if is_for portfolio day direction contract then Some contract else o) (reads.contracts portfolio day direction)
      ∙ sym (contract_stands recorded.contracts contract portfolio day direction);
  left = λ other day direction hour.
      ap (λ (ns : List Notice). left_of other (notice_of day direction hour ns)) notices ∙ reads.left other day direction hour;
}

left_chosen : (contract : Option Contract) (b : Bool) (notice : Notice) (old : Option Notice)
    → left_of contract (if b then Some notice else old) ≡ (if b then left_of contract (Some notice) else left_of contract old)
left_chosen contract true notice old = refl
left_chosen contract false notice old = refl

-- and so is a notice that stands
pub records-notice : (old new : Capacity) (notice : Notice) → NoticeStands old.notices new.notices notice → new.contracts ≡ old.contracts → RecordsNotice old new notice
records-notice old new notice stands contracts recorded reads = record {
  contracts = λ portfolio day direction. ap (contract_of portfolio day direction) contracts ∙ reads.contracts portfolio day direction;
  left = λ contract day direction hour.
      stands contract day direction hour
      ∙ ap (λ (n : ℕ). if covers day direction hour notice then left_of contract (Some notice) else n) (reads.left contract day direction hour)
      ∙ sym (left_chosen contract (covers day direction hour notice) notice (notice_of day direction hour recorded.notices))
      ∙ ap (left_of contract) (sym (notice_stands recorded.notices notice day direction hour));
}

-- ---- what is available

pub reads-available : (kept recorded : Capacity) → ReadsAs kept recorded → (portfolio : List ℕ) (day : Date) (direction : Direction) (hour : ℕ)
    → available kept.contracts kept.notices portfolio day direction hour ≡ available recorded.contracts recorded.notices portfolio day direction hour
unfolding available
reads-available kept recorded reads portfolio day direction hour =
    reads.left (contract_of portfolio day direction kept.contracts) day direction hour
    ∙ ap (λ (o : Option Contract). left_of o (notice_of day direction hour recorded.notices)) (reads.contracts portfolio day direction)

-- ---- who is known

either_way : (of im mi knows has_im has_mi : Bool) → of ≡ (im || mi) → knows ≡ (has_im || has_mi) → (of || knows) ≡ ((im || has_im) || (mi || has_mi))
either_way of true mi knows has_im has_mi e f = ap (λ (b : Bool). b || knows) e
either_way of false true knows true has_mi e f = ap (λ (b : Bool). b || knows) e
either_way of false true knows false has_mi e f = ap (λ (b : Bool). b || knows) e
either_way of false false knows has_im has_mi e f = ap (λ (b : Bool). b || knows) e ∙ f

of_one_way : (portfolio : List ℕ) (day : Date) (contract : Contract) → is_of portfolio day contract ≡ (is_for portfolio day IM contract || is_for portfolio day MI contract)
of_one_way portfolio day contract =
    let of = is_of portfolio day contract in
    by_way of contract.direction
  where
    by_way : (of : Bool) (way : Direction) → of ≡ ((of && same_direction way IM) || (of && same_direction way MI))
    by_way true IM = refl
    by_way true MI = refl
    by_way false way = refl

known_by_way : (portfolio : List ℕ) (day : Date) (contracts : List Contract) → list_any (is_of portfolio day) contracts ≡ (list_any (is_for portfolio day IM) contracts || list_any (is_for portfolio day MI) contracts)
known_by_way portfolio day [] = refl
known_by_way portfolio day (c ∷ cs) =
    either_way (is_of portfolio day c) (is_for portfolio day IM c) (is_for portfolio day MI c) (list_any (is_of portfolio day) cs)
    (list_any (is_for portfolio day IM) cs) (list_any (is_for portfolio day MI) cs) (of_one_way portfolio day c) (known_by_way portfolio day cs)

-- a portfolio is known where a contract stands for it in a direction
pub knows-is : (portfolio : List ℕ) (day : Date) (contracts : List Contract)
    → knows portfolio day contracts ≡ (is_some (contract_of portfolio day IM contracts) || is_some (contract_of portfolio day MI contracts))
unfolding knows has_contract
knows-is portfolio day contracts =
    known_by_way portfolio day contracts ∙ (λ i. sym (has_contract-is portfolio day IM contracts) i || sym (has_contract-is portfolio day MI contracts) i)

pub reads-knows : (kept recorded : Capacity) → ReadsAs kept recorded → (portfolio : List ℕ) (day : Date) → knows portfolio day kept.contracts ≡ knows portfolio day recorded.contracts
reads-knows kept recorded reads portfolio day =
    knows-is portfolio day kept.contracts
    ∙ (λ i. is_some (reads.contracts portfolio day IM i) || is_some (reads.contracts portfolio day MI i))
    ∙ sym (knows-is portfolio day recorded.contracts)

-- ---- which portfolios have contracts

-- the same contract stands for each portfolio, day and direction
abbrev SameStand : List Contract → List Contract → Type 0
SameStand a b = (portfolio : List ℕ) (day : Date) (direction : Direction) → contract_of portfolio day direction a ≡ contract_of portfolio day direction b

module _ {X : Type 0} (p : X → Bool) where
  witness : (xs : List X) → list_any p xs ≡ true → (x : X) × (In x xs) × (p x ≡ true)
  witness [] e = absurd cc
  witness (x ∷ xs) e = by_test (p x) refl e (witness xs)
    where
      by_test : (b : Bool) → p x ≡ b → (b || list_any p xs) ≡ true → (list_any p xs ≡ true → (y : X) × (In y xs) × (p y ≡ true)) → (y : X) × (In y (x ∷ xs)) × (p y ≡ true)
      by_test true is any rest = (x, inl refl, is)
      by_test false is any rest = let found = rest any in (found.0, inr found.1, found.2)

  or_true : (b c : Bool) → b ≡ true → (b || c) ≡ true
  or_true true c e = refl
  or_true false c e = cc

  true_behind : (b c : Bool) → c ≡ true → (b || c) ≡ true
  true_behind true c e = refl
  true_behind false c e = e

  member : (x : X) (xs : List X) → In x xs → p x ≡ true → list_any p xs ≡ true
  member x [] h e = absurd h
  member x (y ∷ ys) (inl is) e = or_true (p y) (list_any p ys) (subst (λ z. p z ≡ true) (sym is) e)
  member x (y ∷ ys) (inr h) e = true_behind (p y) (list_any p ys) (member x ys h e)

-- who has a contract by the one has it by the other
any_same : (a b : List Contract) → SameStand a b → (portfolio : List ℕ) → has_any_contract portfolio a ≡ true → has_any_contract portfolio b ≡ true
unfolding has_any_contract has_contract
any_same a b same portfolio any =
    let here = witness (λ (c : Contract). bytes_eq portfolio c.portfolio) a any in
    let c = here.0 in
    let held = member (is_for c.portfolio c.day c.direction) c a here.1 (is_for-own c) in
    let stands : is_some (contract_of c.portfolio c.day c.direction a) ≡ true = has_contract-is c.portfolio c.day c.direction a ∙ held in
    let other : list_any (is_for c.portfolio c.day c.direction) b ≡ true =
    sym (has_contract-is c.portfolio c.day c.direction b) ∙ ap is_some (sym (same c.portfolio c.day c.direction)) ∙ stands in
    let there = witness (is_for c.portfolio c.day c.direction) b other in
    let codes : there.0.portfolio ≡ c.portfolio = ap (λ (k : ContractKey). k.portfolio) (key_from_test c.portfolio c.day c.direction there.0 there.2) in
    let own : portfolio ≡ c.portfolio = (bytes_eq-Decides portfolio c.portfolio).0 here.2 in
    member (λ (d : Contract). bytes_eq portfolio d.portfolio) there.0 b there.1 ((bytes_eq-Decides portfolio there.0.portfolio).1 (own ∙ sym codes))

-- who has a contract for a day and a direction has one
any-for : (portfolio : List ℕ) (day : Date) (direction : Direction) (contracts : List Contract) → has_contract portfolio day direction contracts ≡ true → has_any_contract portfolio contracts ≡ true
unfolding has_any_contract has_contract
any-for portfolio day direction contracts has =
    let found = witness (is_for portfolio day direction) contracts has in
    let code : found.0.portfolio ≡ portfolio = ap (λ (k : ContractKey). k.portfolio) (key_from_test portfolio day direction found.0 found.2) in
    member (λ (c : Contract). bytes_eq portfolio c.portfolio) found.0 contracts found.1 ((bytes_eq-Decides portfolio found.0.portfolio).1 (sym code))

-- so a contract in the place of another is not refused
pub replaced-taken : (contract : Contract) (contracts : List Contract) → has_contract contract.portfolio contract.day contract.direction contracts ≡ true → is_refused contract contracts ≡ false
unfolding is_refused
replaced-taken contract contracts has =
    ap (λ (b : Bool). not b && nat_le most_portfolios (length (portfolios_of contracts))) (any-for contract.portfolio contract.day contract.direction contracts has)

one_answer : (a b : Bool) → (a ≡ true → b ≡ true) → (b ≡ true → a ≡ true) → a ≡ b
one_answer true b f g = sym (f refl)
one_answer false true f g = g refl
one_answer false false f g = refl

same_any : (a b : List Contract) → SameStand a b → (portfolio : List ℕ) → has_any_contract portfolio a ≡ has_any_contract portfolio b
same_any a b same portfolio =
    one_answer (has_any_contract portfolio a) (has_any_contract portfolio b) (any_same a b same portfolio)
    (any_same b a (λ p day direction. sym (same p day direction)) portfolio)

-- and the same portfolios have contracts
pub same_portfolios : (a b : List Contract) → SameStand a b → IsPermutation (portfolios_of a) (portfolios_of b)
same_portfolios a b same =
    same_members (portfolios_of a) (portfolios_of b) (portfolios_of-distinct a) (portfolios_of-distinct b)
    (λ p. has_any_contract-is p a ∙ same_any a b same p ∙ sym (has_any_contract-is p b))

pub reads-portfolios : (kept recorded : Capacity) → ReadsAs kept recorded → IsPermutation (portfolios_of kept.contracts) (portfolios_of recorded.contracts)
reads-portfolios kept recorded reads = same_portfolios kept.contracts recorded.contracts reads.contracts

-- ---- what is refused

pub reads-refused : (kept recorded : Capacity) → ReadsAs kept recorded → (contract : Contract) → is_refused contract kept.contracts ≡ is_refused contract recorded.contracts
unfolding is_refused
reads-refused kept recorded reads contract =
    let any = same_any kept.contracts recorded.contracts reads.contracts contract.portfolio in
    let count : length (portfolios_of kept.contracts) ≡ length (portfolios_of recorded.contracts) = sym (length_permutation (portfolios_of kept.contracts) (portfolios_of recorded.contracts) (reads-portfolios kept recorded reads)) in
    λ i. not (any i) && nat_le most_portfolios (count i)

-- The last recorded contract or notice.
use Rattle.std.proofs.Common.{◌≡◌, ◌||◌, if◌then◌else◌, List, [], ◌∷◌, ◌++◌, Bool, true, false, Option, Some, None, is_some, ℕ, find, reverse, refl, sym, ap, ◌∙◌}
use Rattle.std.specs.List.{list_any}
use Rattle.std.proofs.lemmas.List.{reverse-append}
use Rattle.std.proofs.lemmas.List.Sorted.{IsPermutation-reverse, list_any-IsPermutation}
use Rattle.jiff_core.specs.declared.civil.date.Date.{Date}
use Rattle.gi_pairs.specs.declared.direction.Direction.{Direction}
use Rattle.gi_processing.specs.Capacity.{contract_of, covers, has_contract, has_notice, is_for, notice_of}
use Rattle.gi_processing.specs.Recording.{ContractStands}
use Rattle.gi_processing.specs.declared.contract.Contract.{Contract}
use Rattle.gi_processing.specs.declared.notice.Notice.{Notice}

some_chosen : {X : Type 0} (b : Bool) (x : X) (o : Option X) (c : Bool) → is_some o ≡ c → is_some (if b then Some x else o) ≡ (b || c)
some_chosen true x o c e = refl
some_chosen false x o c e = e

found_any : {X : Type 0} (p : X → Bool) (xs : List X) → is_some (find p xs) ≡ list_any p xs
found_any p [] = refl
found_any p (x ∷ xs) = some_chosen (p x) x (find p xs) (list_any p xs) (found_any p xs)

-- a last one that passes the test is found where there is one at all
last-any : {X : Type 0} (p : X → Bool) (xs : List X) → is_some (find p (reverse xs)) ≡ list_any p xs
last-any p xs = found_any p (reverse xs) ∙ sym (list_any-IsPermutation p xs (reverse xs) (IsPermutation-reverse xs))

last-more : {X : Type 0} (p : X → Bool) (xs : List X) (x : X) → find p (reverse (xs ++ x ∷ [])) ≡ (if p x then Some x else find p (reverse xs))
last-more p xs x = ap (find p) (reverse-append xs (x ∷ []))

-- the contract recorded last stands for all that it is for
pub contract_stands : (contracts : List Contract) (contract : Contract) → ContractStands contracts (contracts ++ contract ∷ []) contract
unfolding contract_of
contract_stands contracts contract portfolio day direction = last-more (is_for portfolio day direction) contracts contract

-- the notice recorded last stands for all that it covers
pub notice_stands : (notices : List Notice) (notice : Notice) (day : Date) (direction : Direction) (hour : ℕ)
    → notice_of day direction hour (notices ++ notice ∷ []) ≡ (if covers day direction hour notice then Some notice else notice_of day direction hour notices)
unfolding notice_of
notice_stands notices notice day direction hour = last-more (covers day direction hour) notices notice

-- where there is a contract at all, one stands
pub has_contract-is : (portfolio : List ℕ) (day : Date) (direction : Direction) (contracts : List Contract)
    → is_some (contract_of portfolio day direction contracts) ≡ has_contract portfolio day direction contracts
unfolding contract_of has_contract
has_contract-is portfolio day direction contracts = last-any (is_for portfolio day direction) contracts

-- where there is a notice at all, one stands
pub has_notice-is : (day : Date) (direction : Direction) (hour : ℕ) (notices : List Notice)
    → is_some (notice_of day direction hour notices) ≡ has_notice day direction hour notices
unfolding notice_of has_notice
has_notice-is day direction hour notices = last-any (covers day direction hour) notices

none_from_not_some : {X : Type 0} (o : Option X) → is_some o ≡ false → o ≡ None
none_from_not_some None e = refl
none_from_not_some (Some x) e = cc

pub no_contract : (portfolio : List ℕ) (day : Date) (direction : Direction) (contracts : List Contract)
    → has_contract portfolio day direction contracts ≡ false → contract_of portfolio day direction contracts ≡ None
no_contract portfolio day direction contracts e =
    none_from_not_some (contract_of portfolio day direction contracts) (has_contract-is portfolio day direction contracts ∙ e)

pub no_notice : (day : Date) (direction : Direction) (hour : ℕ) (notices : List Notice)
    → has_notice day direction hour notices ≡ false → notice_of day direction hour notices ≡ None
no_notice day direction hour notices e =
    none_from_not_some (notice_of day direction hour notices) (has_notice-is day direction hour notices ∙ e)

-- A key is found exactly where a contract or a notice is for it.
use Rattle.std.proofs.Common.{◌≡◌, ℕ, List, Bool, true, false, ◌&&◌, refl, sym, ◌∙◌}
use Rattle.std.specs.Cmp.{IsTotalOrder, both_tied, eq_by_cmp_equiv, int_cmp_total, nat_cmp_total, on_total, then_total, unsigned_ties}
use Rattle.std.specs.Ordering.{int_cmp, is_eq, nat_cmp, on, ordering_then}
use Rattle.std.specs.Str.{bytes_eq}
use Rattle.std.proofs.lemmas.Bool.{and_from, and_parts}
use Rattle.std.proofs.lemmas.Map.Text.{is_eq-slice_cmp}
use Rattle.std.proofs.lemmas.Slice.Eq.{bytes_eq-Decides}
use Rattle.jiff_core.specs.Date.{epoch_day}
use Rattle.jiff_core.specs.declared.civil.date.Date.{Date}
use Rattle.gi_day.specs.SameDay.{same_day}
use Rattle.gi_day.proofs.DayLaws.{same_day-Decides}
use Rattle.gi_pairs.specs.Direction.{place_of}
use Rattle.gi_pairs.specs.Key.{code_cmp}
use Rattle.gi_pairs.specs.declared.direction.Direction.{Direction}
use Rattle.gi_pairs.specs.declared.direction.Direction.TheVariants.{IM, MI}
use Rattle.gi_processing.specs.Capacity.{is_for, is_of, same_direction}
use Rattle.gi_processing.specs.Kept.{contract_cmp, contract_key, notice_cmp, notice_key}
use Rattle.gi_processing.specs.declared.contract.Contract.{Contract}
use Rattle.gi_processing.specs.declared.contract_key.ContractKey.{ContractKey}
use Rattle.gi_processing.specs.declared.notice_key.NoticeKey.{NoticeKey}
use Rattle.gi_processing.proofs.Counterparties.{code_total}

by_direction : IsTotalOrder (on place_of nat_cmp)
by_direction = on_total place_of nat_cmp_total

by_day : IsTotalOrder (on epoch_day int_cmp)
by_day = on_total epoch_day int_cmp_total

contract_total : IsTotalOrder contract_cmp
contract_total =
    then_total (on_total (λ (k : ContractKey). k.portfolio) code_total)
    (then_total (on_total (λ (k : ContractKey). k.day) by_day) (on_total (λ (k : ContractKey). k.direction) by_direction))

pub notice_total : IsTotalOrder notice_cmp
notice_total = then_total (on_total (λ (k : NoticeKey). k.day) by_day) (on_total (λ (k : NoticeKey). k.direction) by_direction)

-- ---- the parts of keys

places_tied : (a b : Direction) → same_direction a b ≡ is_eq (nat_cmp (place_of a) (place_of b))
places_tied a b = unsigned_ties (place_of a) (place_of b)

grouped : (a b c : Bool) → (a && (b && c)) ≡ ((a && b) && c)
grouped true b c = refl
grouped false b c = refl

same_direction-is : (a b : Direction) → same_direction a b ≡ true → a ≡ b
same_direction-is IM IM e = refl
same_direction-is IM MI e = cc
same_direction-is MI IM e = cc
same_direction-is MI MI e = refl

same_direction-self : (a : Direction) → same_direction a a ≡ true
same_direction-self IM = refl
same_direction-self MI = refl

-- ---- a contract is for what its key says

-- the key of a contract
abbrev pub key_of : Contract → ContractKey
key_of contract = contract_key contract.portfolio contract.day contract.direction

pub key_from_test : (portfolio : List ℕ) (day : Date) (direction : Direction) (contract : Contract) → is_for portfolio day direction contract ≡ true → key_of contract ≡ contract_key portfolio day direction
key_from_test portfolio day direction contract e =
    let outer = and_parts (is_of portfolio day contract) (same_direction contract.direction direction) e in
    let inner = and_parts (bytes_eq contract.portfolio portfolio) (same_day contract.day day) outer.0 in
    let p = (bytes_eq-Decides contract.portfolio portfolio).0 inner.0 in
    let d = (same_day-Decides contract.day day).0 inner.1 in
    let way = same_direction-is contract.direction direction outer.1 in
    λ i. record { portfolio = p i; day = d i; direction = way i }

pub is_for-own : (contract : Contract) → is_for contract.portfolio contract.day contract.direction contract ≡ true
is_for-own contract =
    and_from (is_of contract.portfolio contract.day contract) (same_direction contract.direction contract.direction)
    (and_from (bytes_eq contract.portfolio contract.portfolio) (same_day contract.day contract.day)
    ((bytes_eq-Decides contract.portfolio contract.portfolio).1 refl) ((same_day-Decides contract.day contract.day).1 refl))
    (same_direction-self contract.direction)

-- the contract's key is found by a query exactly where the contract is for what the query names
pub is_for-found : (portfolio : List ℕ) (day : Date) (direction : Direction) (contract : Contract)
    → is_eq (contract_cmp (key_of contract) (contract_key portfolio day direction)) ≡ is_for portfolio day direction contract
is_for-found portfolio day direction contract =
    let code = bytes_eq contract.portfolio portfolio in
    let of_day = same_day contract.day day in
    let way = same_direction contract.direction direction in
    let p = int_cmp (epoch_day contract.day) (epoch_day day) in
    let q = nat_cmp (place_of contract.direction) (place_of direction) in
    sym (both_tied code (of_day && way) (code_cmp contract.portfolio portfolio) (ordering_then p q) (sym (is_eq-slice_cmp contract.portfolio portfolio))
    (both_tied of_day way p q refl (places_tied contract.direction direction)))
    ∙ grouped code of_day way

pub found-is_for : (portfolio : List ℕ) (day : Date) (direction : Direction) (contract : Contract)
    → is_eq (contract_cmp (contract_key portfolio day direction) (key_of contract)) ≡ is_for portfolio day direction contract
found-is_for portfolio day direction contract =
    (eq_by_cmp_equiv contract_total).symm (contract_key portfolio day direction) (key_of contract) ∙ is_for-found portfolio day direction contract

-- ---- a key is for its gas day and direction

-- whether a key is for the day and the direction
abbrev pub is_key : Date → Direction → NoticeKey → Bool
is_key day direction key = same_day key.day day && same_direction key.direction direction

pub key_from_days : (day : Date) (direction : Direction) (key : NoticeKey) → is_key day direction key ≡ true → key ≡ notice_key day direction
key_from_days day direction key e =
    let both = and_parts (same_day key.day day) (same_direction key.direction direction) e in
    let d = (same_day-Decides key.day day).0 both.0 in
    let way = same_direction-is key.direction direction both.1 in
    λ i. record { day = d i; direction = way i }

pub is_key-found : (day : Date) (direction : Direction) (key : NoticeKey) → is_eq (notice_cmp key (notice_key day direction)) ≡ is_key day direction key
is_key-found day direction key =
    let p = int_cmp (epoch_day key.day) (epoch_day day) in
    let q = nat_cmp (place_of key.direction) (place_of direction) in
    sym (both_tied (same_day key.day day) (same_direction key.direction direction) p q refl (places_tied key.direction direction))

pub found-is_key : (day : Date) (direction : Direction) (key : NoticeKey) → is_eq (notice_cmp (notice_key day direction) key) ≡ is_key day direction key
found-is_key day direction key = (eq_by_cmp_equiv notice_total).symm (notice_key day direction) key ∙ is_key-found day direction key

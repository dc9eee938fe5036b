-- How the entries of what is kept are read.
use Rattle.std.proofs.Common.{◌≡◌, ◌+◌, ◌-◌, ◌<◌, ◌≤◌, ◌&&◌, if◌then◌else◌, cond, zero, suc, List, [], ◌∷◌, Bool, true, false, Option, Some, None, is_some, ℕ, find, get_or, map, nat_le, ◌⊎◌, inl, inr, refl, sym, ap, subst, ◌∙◌, arith}
use Rattle.std.specs.Borrow.{Bor}
use Rattle.std.specs.BTreeMap.{BTreeMap, IsOrdered, Updates, get, is_at}
use Rattle.std.specs.Cmp.{eq_by_cmp_equiv}
use Rattle.std.specs.List.{IsDistinct, flat_map}
use Rattle.std.specs.Map.{keys_of, lookup}
use Rattle.std.specs.Option.{option_copied, option_map, option_or}
use Rattle.std.specs.Ordering.{eq_by_cmp, is_eq}
use Rattle.std.proofs.lemmas.List.{reverse-reverse}
use Rattle.std.proofs.lemmas.List.Folds.{find-append}
use Rattle.std.proofs.lemmas.Bool.{cases_lt}
use Rattle.std.proofs.lemmas.Bool.Decides.{nat_tests}
use Rattle.std.proofs.lemmas.Map.{NonePasses, none_passes_from_lookup}
use Rattle.std.proofs.lemmas.Map.Entries.{none_past_head}
use Rattle.std.proofs.lemmas.Map.Keys.{IsDistinct-from_sorted}
use Rattle.jiff_core.specs.declared.civil.date.Date.{Date}
use Rattle.gi_day.specs.SameDay.{same_day}
use Rattle.gi_pairs.specs.declared.direction.Direction.{Direction}
use Rattle.gi_processing.specs.Capacity.{Capacity, contract_of, covers, has_contract, has_notice, is_for, left_of, notice_of, parts, same_direction}
use Rattle.gi_processing.specs.CapacityLimits.{most_permille}
use Rattle.gi_processing.specs.HoursLeft.{CutsHours, IsLeft, left_at, left_by, left_under, whole}
use Rattle.gi_processing.specs.Kept.{contract_at, contract_cmp, contract_key, contracts_in, CutsRows, hourly, left_in, left_of_rows, notice_at, notice_cmp, notice_key, notices_in}
use Rattle.gi_processing.specs.Recording.{ContractStands, IsNotice, NoticeStands}
use Rattle.gi_processing.specs.declared.contract.Contract.{Contract}
use Rattle.gi_processing.specs.declared.contract_key.ContractKey.{ContractKey}
use Rattle.gi_processing.specs.declared.contracted.Contracted.{Contracted}
use Rattle.gi_processing.specs.declared.hours_left.HoursLeft.{HoursLeft}
use Rattle.gi_processing.specs.declared.hours_left.Thousandths.{Thousandths}
use Rattle.gi_processing.specs.declared.notice.Notice.{Notice}
use Rattle.gi_processing.specs.declared.notice_key.NoticeKey.{NoticeKey}
use Rattle.gi_processing.proofs.KeyLaws.{found-is_for, found-is_key, is_for-found, is_key, is_key-found, key_from_days, key_from_test, key_of, notice_total}
use Rattle.gi_processing.proofs.LastRecorded.{has_contract-is, has_notice-is}

-- ---- contracts

find_entries : (portfolio : List ℕ) (day : Date) (direction : Direction) (entries : List (ContractKey × Contracted))
    → find (is_for portfolio day direction) (map (λ e. contract_at e.0 e.1) entries)
    ≡ option_map (contract_at (contract_key portfolio day direction)) (lookup (is_at (contract_cmp (contract_key portfolio day direction))) entries)
find_entries portfolio day direction [] = refl
find_entries portfolio day direction (e ∷ es) =
    let key = contract_key portfolio day direction in
    by_test (is_eq (contract_cmp key e.0)) (is_for portfolio day direction (contract_at e.0 e.1)) (found-is_for portfolio day direction (contract_at e.0 e.1)) refl (find_entries portfolio day direction es)
  where
    by_test : (at for : Bool) → at ≡ for → is_for portfolio day direction (contract_at e.0 e.1) ≡ for
        → find (is_for portfolio day direction) (map (λ e. contract_at e.0 e.1) es)
        ≡ option_map (contract_at (contract_key portfolio day direction)) (lookup (is_at (contract_cmp (contract_key portfolio day direction))) es)
        → cond for (Some (contract_at e.0 e.1)) (find (is_for portfolio day direction) (map (λ e. contract_at e.0 e.1) es))
        ≡ option_map (contract_at (contract_key portfolio day direction)) (cond at (Some e.1) (lookup (is_at (contract_cmp (contract_key portfolio day direction))) es))
    by_test true true same is rest = ap (λ (k : ContractKey). Some (contract_at k e.1)) (key_from_test portfolio day direction (contract_at e.0 e.1) is)
    by_test true false same is rest = cc
    by_test false true same is rest = cc
    by_test false false same is rest = rest

-- the contract that stands is that of the key's entry
contract-read : (portfolio : List ℕ) (day : Date) (direction : Direction) (contracts : BTreeMap ContractKey Contracted)
    → contract_of portfolio day direction (contracts_in contracts.entries) ≡ option_map (contract_at (contract_key portfolio day direction)) (get contract_cmp contracts (contract_key portfolio day direction))
unfolding contract_of
contract-read portfolio day direction contracts =
    ap (find (is_for portfolio day direction)) (reverse-reverse (map (λ (e : ContractKey × Contracted). contract_at e.0 e.1) contracts.entries))
    ∙ find_entries portfolio day direction contracts.entries

-- what a query found, read as the contract that stands
pub contract-found : (portfolio : List ℕ) (day : Date) (direction : Direction) (contracts : BTreeMap ContractKey Contracted) (capacity : Capacity) (found : Option (Bor Contracted))
    → contracts_in contracts.entries ≡ capacity.contracts → option_copied found ≡ get contract_cmp contracts (contract_key portfolio day direction)
    → option_map (contract_at (contract_key portfolio day direction)) (option_copied found) ≡ contract_of portfolio day direction capacity.contracts
contract-found portfolio day direction contracts capacity found kept is =
    ap (option_map (contract_at (contract_key portfolio day direction))) is
    ∙ sym (contract-read portfolio day direction contracts)
    ∙ ap (contract_of portfolio day direction) kept

-- a contract in its place stands
pub contract-set : (old new : BTreeMap ContractKey Contracted) (contract : Contract)
    → Updates contract_cmp old new (key_of contract) (Some (record { firm = contract.firm; interruptible = contract.interruptible }))
    → ContractStands (contracts_in old.entries) (contracts_in new.entries) contract
contract-set old new contract updates portfolio day direction =
    let key = contract_key portfolio day direction in
    contract-read portfolio day direction new
    ∙ ap (option_map (contract_at key)) (updates.0 key)
    ∙ by_test (is_eq (contract_cmp (key_of contract) key)) (is_for portfolio day direction contract) (is_for-found portfolio day direction contract) refl
  where
    by_test : (at for : Bool) → at ≡ for → is_for portfolio day direction contract ≡ for
        → option_map (contract_at (contract_key portfolio day direction))
        (cond at (Some (record { firm = contract.firm; interruptible = contract.interruptible })) (get contract_cmp old (contract_key portfolio day direction)))
        ≡ (if for then Some contract else contract_of portfolio day direction (contracts_in old.entries))
    by_test true true same is =
        ap (λ (k : ContractKey). Some (contract_at k (record { firm = contract.firm; interruptible = contract.interruptible }))) (sym (key_from_test portfolio day direction contract is))
    by_test true false same is = cc
    by_test false true same is = cc
    by_test false false same is = sym (contract-read portfolio day direction old)

-- ---- notices

none_of : (x y a b : Bool) → (x && y) ≡ false → (x && y && a && b) ≡ false
none_of true true a b e = cc
none_of true false a b e = refl
none_of false y a b e = refl

all_of : (x y a b : Bool) → (x && y) ≡ true → (x && y && a && b) ≡ (a && b)
all_of true true a b e = refl
all_of true false a b e = cc
all_of false y a b e = cc

-- no notice of another row covers the hour
find_hourly-apart : (day : Date) (direction : Direction) (hour : ℕ) (key : NoticeKey) (from : ℕ) (lefts : List Thousandths) → is_key day direction key ≡ false
    → find (covers day direction hour) (hourly key from lefts) ≡ None
find_hourly-apart day direction hour key from [] apart = refl
find_hourly-apart day direction hour key from (left ∷ lefts) apart =
    let here : covers day direction hour (notice_at key from left) ≡ false =
    none_of (same_day key.day day) (same_direction key.direction direction) (nat_le from hour) (nat_le hour from) apart in
    ap (λ (b : Bool). cond b (Some (notice_at key from left)) (find (covers day direction hour) (hourly key (from + 1) lefts))) here
    ∙ find_hourly-apart day direction hour key (from + 1) lefts apart

-- the row of the day and direction has the hour
find_hourly : (day : Date) (direction : Direction) (hour : ℕ) (key : NoticeKey) (from : ℕ) (lefts : List Thousandths) → is_key day direction key ≡ true
    → left_under (find (covers day direction hour) (hourly key from lefts)) ≡ (if nat_le from hour then get_or lefts (hour - from) whole else whole)
find_hourly day direction hour key from [] is = either (nat_le from hour)
  where
    either : (b : Bool) → whole ≡ (if b then whole else whole)
    either true = refl
    either false = refl
find_hourly day direction hour key from (left ∷ lefts) is =
    let tested : covers day direction hour (notice_at key from left) ≡ (nat_le from hour && nat_le hour from) =
    all_of (same_day key.day day) (same_direction key.direction direction) (nat_le from hour) (nat_le hour from) is in
    let more = find (covers day direction hour) (hourly key (from + 1) lefts) in
    ap (λ (b : Bool). left_under (cond b (Some (notice_at key from left)) more)) tested
    ∙ by_order more (find_hourly day direction hour key (from + 1) lefts is) (cases_lt from hour) (cases_lt hour from)
  where
    by_order : (more : Option Notice) → left_under more ≡ (if nat_le (from + 1) hour then get_or lefts (hour - (from + 1)) whole else whole)
        → (from < hour) ⊎ (hour ≤ from) → (hour < from) ⊎ (from ≤ hour)
        → left_under (cond (nat_le from hour && nat_le hour from) (Some (notice_at key from left)) more) ≡ (if nat_le from hour then get_or (left ∷ lefts) (hour - from) whole else whole)
    by_order more later (inl below) above =
        let low : nat_le from hour ≡ true = grind (arith, nat_tests, below) in
        let high : nat_le hour from ≡ false = grind (arith, nat_tests, below) in
        let next : nat_le (from + 1) hour ≡ true = grind (arith, nat_tests, below) in
        let place : hour - from ≡ suc (hour - (from + 1)) = omega (arith, below) in
        (λ i. left_under (cond (low i && high i) (Some (notice_at key from left)) more))
        ∙ later
        ∙ (λ i. if next i then get_or lefts (hour - (from + 1)) whole else whole)
        ∙ ap (λ n. get_or (left ∷ lefts) n whole) (sym place)
        ∙ (λ i. if sym low i then get_or (left ∷ lefts) (hour - from) whole else whole)
    by_order more later (inr reaches) (inl above) =
        let low : nat_le from hour ≡ false = grind (arith, nat_tests, above) in
        let next : nat_le (from + 1) hour ≡ false = grind (arith, nat_tests, above) in
        (λ i. left_under (cond (low i && nat_le hour from) (Some (notice_at key from left)) more))
        ∙ later
        ∙ (λ i. if next i then get_or lefts (hour - (from + 1)) whole else whole)
        ∙ (λ i. if sym low i then get_or (left ∷ lefts) (hour - from) whole else whole)
    by_order more later (inr reaches) (inr begun) =
        let low : nat_le from hour ≡ true = grind (arith, nat_tests, begun) in
        let high : nat_le hour from ≡ true = grind (arith, nat_tests, reaches) in
        let place : hour - from ≡ zero = omega (arith, reaches) in
        (λ i. left_under (cond (low i && high i) (Some (notice_at key from left)) more))
        ∙ ap (λ n. get_or (left ∷ lefts) n whole) (sym place)
        ∙ (λ i. if sym low i then get_or (left ∷ lefts) (hour - from) whole else whole)

module _ (day : Date) (direction : Direction) (hour : ℕ) where
  none_found : (entries : List (NoticeKey × HoursLeft)) → NonePasses (eq_by_cmp notice_cmp (notice_key day direction)) entries
      → find (covers day direction hour) (flat_map (λ e. hourly e.0 1 e.1.hours) entries) ≡ None
  none_found [] none = refl
  none_found (e ∷ es) none =
      let here = find_hourly-apart day direction hour e.0 1 e.1.hours (sym (found-is_key day direction e.0) ∙ none.0) in
      find-append (covers day direction hour) (hourly e.0 1 e.1.hours) (flat_map (λ (e : NoticeKey × HoursLeft). hourly e.0 1 e.1.hours) es)
      ∙ (λ i. option_or (here i) (none_found es none.1 i))

  nothing_after : (o : Option Notice) → option_or o None ≡ o
  nothing_after None = refl
  nothing_after (Some notice) = refl

  find_rows : (entries : List (NoticeKey × HoursLeft)) → IsDistinct (eq_by_cmp notice_cmp) (keys_of entries)
      → left_under (find (covers day direction hour) (flat_map (λ e. hourly e.0 1 e.1.hours) entries))
      ≡ left_in (lookup (is_at (notice_cmp (notice_key day direction))) entries) hour
  unfolding IsDistinct
  find_rows [] apart = refl
  find_rows (e ∷ es) apart =
      ap left_under (find-append (covers day direction hour) (hourly e.0 1 e.1.hours) (flat_map (λ (e : NoticeKey × HoursLeft). hourly e.0 1 e.1.hours) es))
      ∙ by_test (is_eq (notice_cmp (notice_key day direction) e.0)) refl (find_rows es apart.1)
    where
      by_test : (b : Bool) → is_eq (notice_cmp (notice_key day direction) e.0) ≡ b
          → left_under (find (covers day direction hour) (flat_map (λ e. hourly e.0 1 e.1.hours) es)) ≡ left_in (lookup (is_at (notice_cmp (notice_key day direction))) es) hour
          → left_under (option_or (find (covers day direction hour) (hourly e.0 1 e.1.hours)) (find (covers day direction hour) (flat_map (λ e. hourly e.0 1 e.1.hours) es)))
          ≡ left_in (cond b (Some e.1) (lookup (is_at (notice_cmp (notice_key day direction))) es)) hour
      by_test false is rest =
          let here = find_hourly-apart day direction hour e.0 1 e.1.hours (sym (found-is_key day direction e.0) ∙ is) in
          ap (λ (o : Option Notice). left_under (option_or o (find (covers day direction hour) (flat_map (λ (e : NoticeKey × HoursLeft). hourly e.0 1 e.1.hours) es)))) here ∙ rest
      by_test true is rest =
          let none = none_found es (none_past_head (eq_by_cmp_equiv notice_total) (notice_key day direction) e es apart is) in
          ap (λ (o : Option Notice). left_under (option_or (find (covers day direction hour) (hourly e.0 1 e.1.hours)) o)) none
          ∙ ap left_under (nothing_after (find (covers day direction hour) (hourly e.0 1 e.1.hours)))
          ∙ find_hourly day direction hour e.0 1 e.1.hours (sym (found-is_key day direction e.0) ∙ is)

-- what the standing notice leaves is what the row of its day and direction has
notice-read : (day : Date) (direction : Direction) (hour : ℕ) (notices : BTreeMap NoticeKey HoursLeft) → IsOrdered notice_cmp notices
    → left_under (notice_of day direction hour (notices_in notices.entries)) ≡ left_of_rows notices day direction hour
unfolding notice_of
notice-read day direction hour notices ordered =
    ap (λ (ns : List Notice). left_under (find (covers day direction hour) ns)) (reverse-reverse (flat_map (λ (e : NoticeKey × HoursLeft). hourly e.0 1 e.1.hours) notices.entries))
    ∙ find_rows day direction hour notices.entries (IsDistinct-from_sorted notice_cmp (keys_of notices.entries) ordered)

-- what a query found, read as what the standing notice leaves
pub notice-found : (day : Date) (direction : Direction) (hour : ℕ) (notices : BTreeMap NoticeKey HoursLeft) (capacity : Capacity) (found : Option (Bor HoursLeft)) → IsOrdered notice_cmp notices
    → notices_in notices.entries ≡ capacity.notices → option_copied found ≡ get notice_cmp notices (notice_key day direction)
    → left_in (option_copied found) hour ≡ left_under (notice_of day direction hour capacity.notices)
notice-found day direction hour notices capacity found ordered kept is =
    ap (λ (o : Option HoursLeft). left_in o hour) is
    ∙ sym (notice-read day direction hour notices ordered)
    ∙ ap (λ (ns : List Notice). left_under (notice_of day direction hour ns)) kept

-- a row in its place cuts the hours of its day and direction
pub rows-cut : (old new : BTreeMap NoticeKey HoursLeft) (notice : Notice) (row cut : HoursLeft)
    → ((hour : ℕ) → left_at row.hours hour ≡ left_in (get notice_cmp old (notice_key notice.day notice.direction)) hour)
    → CutsHours notice row.hours cut.hours → Updates notice_cmp old new (notice_key notice.day notice.direction) (Some cut) → CutsRows notice old new
rows-cut old new notice row cut was cuts updates day direction hour =
    let key = notice_key notice.day notice.direction in
    ap (λ (o : Option HoursLeft). left_in o hour) (updates.0 (notice_key day direction))
    ∙ by_test (is_eq (notice_cmp key (notice_key day direction))) (is_key day direction key) (is_key-found day direction key) refl
  where
    by_test : (at is : Bool) → at ≡ is → is_key day direction (notice_key notice.day notice.direction) ≡ is
        → left_in (cond at (Some cut) (get notice_cmp old (notice_key day direction))) hour ≡ (if covers day direction hour notice then left_by notice else left_of_rows old day direction hour)
    by_test true true same is =
        let own = key_from_days day direction (notice_key notice.day notice.direction) is in
        cuts hour
        ∙ (λ i. if sym (all_of (same_day notice.day day) (same_direction notice.direction direction) (nat_le notice.first hour) (nat_le hour notice.last) is) i then left_by notice
        else (was hour ∙ ap (λ (k : NoticeKey). left_in (get notice_cmp old k) hour) own) i)
    by_test true false same is = cc
    by_test false true same is = cc
    by_test false false same is =
        ap (λ (b : Bool). if b then left_by notice else left_of_rows old day direction hour)
        (sym (none_of (same_day notice.day day) (same_direction notice.direction direction) (nat_le notice.first hour) (nat_le hour notice.last) is))

-- what is left of a contract, by thousandths
abbrev pub left_with : Option Contract → Thousandths → ℕ
left_with None left = 0
left_with (Some contract) left = parts contract left.firm left.interruptible

pub left-is : (contract : Option Contract) (notice : Option Notice) → left_of contract notice ≡ left_with contract (left_under notice)
left-is None notice = refl
left-is (Some contract) None = refl
left-is (Some contract) (Some notice) = refl

-- a notice in its place stands
pub notice-cut : (old new : BTreeMap NoticeKey HoursLeft) (notice : Notice) → IsOrdered notice_cmp old → IsOrdered notice_cmp new → CutsRows notice old new
    → NoticeStands (notices_in old.entries) (notices_in new.entries) notice
notice-cut old new notice old_ordered new_ordered cuts contract day direction hour =
    left-is contract (notice_of day direction hour (notices_in new.entries))
    ∙ ap (left_with contract) (notice-read day direction hour new new_ordered ∙ cuts day direction hour)
    ∙ by_test (covers day direction hour notice)
  where
    by_test : (b : Bool) → left_with contract (if b then left_by notice else left_of_rows old day direction hour)
        ≡ (if b then left_of contract (Some notice) else left_of contract (notice_of day direction hour (notices_in old.entries)))
    by_test true = sym (left-is contract (Some notice))
    by_test false = sym (left-is contract (notice_of day direction hour (notices_in old.entries)) ∙ ap (left_with contract) (notice-read day direction hour old old_ordered))

-- what a whole contract leaves
pub whole_parts : (contract : Contract) → parts contract most_permille most_permille ≡ contract.firm + contract.interruptible
whole_parts contract = omega arith

left_chosen : (b : Bool) (cut old : Thousandths) → IsLeft cut → IsLeft old → IsLeft (if b then cut else old)
left_chosen true cut old is was = is
left_chosen false cut old is was = was

-- a notice in range leaves no more than all
pub left-cut : (old new : BTreeMap NoticeKey HoursLeft) (notice : Notice) → IsNotice notice → ((day : Date) (direction : Direction) (hour : ℕ) → IsLeft (left_of_rows old day direction hour))
    → CutsRows notice old new → (day : Date) (direction : Direction) (hour : ℕ) → IsLeft (left_of_rows new day direction hour)
left-cut old new notice range was cuts day direction hour =
    subst (λ (l : Thousandths). IsLeft l) (sym (cuts day direction hour))
    (left_chosen (covers day direction hour notice) (left_by notice) (left_of_rows old day direction hour) (record { firm = range.firm; interruptible = range.interruptible }) (was day direction hour))

-- where the map has no entry for it, no contract stands
pub contract-absent : (portfolio : List ℕ) (day : Date) (direction : Direction) (contracts : BTreeMap ContractKey Contracted) → get contract_cmp contracts (contract_key portfolio day direction) ≡ None
    → has_contract portfolio day direction (contracts_in contracts.entries) ≡ false
contract-absent portfolio day direction contracts none =
    sym (has_contract-is portfolio day direction (contracts_in contracts.entries))
    ∙ ap (λ (o : Option Contract). is_some o) (contract-read portfolio day direction contracts ∙ ap (option_map (contract_at (contract_key portfolio day direction))) none)

-- and where there is no row, no notice
pub notice-absent : (day : Date) (direction : Direction) (hour : ℕ) (notices : BTreeMap NoticeKey HoursLeft) → get notice_cmp notices (notice_key day direction) ≡ None
    → has_notice day direction hour (notices_in notices.entries) ≡ false
unfolding notice_of
notice-absent day direction hour notices none =
    sym (has_notice-is day direction hour (notices_in notices.entries))
    ∙ ap (λ (ns : List Notice). is_some (find (covers day direction hour) ns)) (reverse-reverse (flat_map (λ (e : NoticeKey × HoursLeft). hourly e.0 1 e.1.hours) notices.entries))
    ∙ ap (λ (o : Option Notice). is_some o) (none_found day direction hour notices.entries (none_passes_from_lookup (is_at (notice_cmp (notice_key day direction))) notices.entries none))

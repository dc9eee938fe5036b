-- The portfolios that have contracts.
use Rattle.std.proofs.Common.{◌≡◌, ℕ, ◌||◌, Bool, true, false, List, [], ◌∷◌, ◌++◌, map, refl, sym, ap, ◌∙◌, if◌then◌else◌, rules, not, ◌&&◌, inl, inr, subst, nat_le}
use Rattle.std.specs.Cmp.{IsEquivalence}
use Rattle.std.specs.Cmp.Rules.{comparing}
use Rattle.std.specs.List.{list_any, flat_map, fold, IsDistinct, AllByRecursion}
use Rattle.std.specs.List.Sorted.{IsPermutation}
use Rattle.std.specs.Str.{bytes_eq}
use Rattle.std.proofs.lemmas.Bool.{or_parts}
use Rattle.std.proofs.lemmas.List.{append_assoc}
use Rattle.std.proofs.lemmas.List.Folds.{list_any-append, fold-map}
use Rattle.std.proofs.lemmas.List.Sums.{fold-append}
use Rattle.std.proofs.lemmas.List.Sorted.{IsPermutation-append_comm, IsPermutation-append_left, IsPermutation-append_right, IsPermutation-cons, IsPermutation-middle, IsPermutation-refl, IsPermutation-sym, IsPermutation-trans, length_permutation, list_any-IsPermutation}
use Rattle.std.proofs.lemmas.Map.Keys.{IsDistinct-IsPermutation}
use Rattle.std.proofs.lemmas.Map.Steps.{list_any_congr}
use Rattle.std.proofs.lemmas.Bool.{and_parts}
use Rattle.std.proofs.lemmas.Slice.Eq.{bytes_eq-Decides}
use Rattle.jiff_core.specs.declared.civil.date.Date.{Date}
use Rattle.gi_day.specs.SameDay.{same_day}
use Rattle.gi_pairs.proofs.Building.{In}
use Rattle.gi_processing.specs.Capacity.{Capacity, is_of, knows}
use Rattle.gi_processing.specs.Recording.{has_any_contract, is_refused, is_too_many, portfolios_of, with_portfolio}
use Rattle.gi_processing.specs.CapacityLimits.{most_portfolios}
use Rattle.gi_processing.specs.declared.contract.Contract.{Contract}

pub same_codes : IsEquivalence bytes_eq
same_codes = search (comparing, rules)

or_false : (b : Bool) → (b || false) ≡ b
or_false true = refl
or_false false = refl

or_true : (b c : Bool) → (b ≡ true → c ≡ true) → c ≡ (c || b)
or_true true true f = refl
or_true true false f = f refl
or_true false true f = refl
or_true false false f = refl

-- one more portfolio is among them, and whoever was
any-with_portfolio : (p q : List ℕ) (ps : List (List ℕ)) → list_any (bytes_eq p) (with_portfolio ps q) ≡ (list_any (bytes_eq p) ps || bytes_eq p q)
any-with_portfolio p q ps = chosen (list_any (bytes_eq q) ps) refl
  where
    chosen : (b : Bool) → list_any (bytes_eq q) ps ≡ b → list_any (bytes_eq p) (if b then ps else ps ++ q ∷ []) ≡ (list_any (bytes_eq p) ps || bytes_eq p q)
    chosen true e = or_true (bytes_eq p q) (list_any (bytes_eq p) ps) (λ same. list_any_congr same_codes p q ps same ∙ e)
    chosen false e = list_any-append (bytes_eq p) ps (q ∷ []) ∙ ap (λ (b : Bool). list_any (bytes_eq p) ps || b) (or_false (bytes_eq p q))

any-fold : (p : List ℕ) (ps : List (List ℕ)) (contracts : List Contract)
    → list_any (bytes_eq p) (fold with_portfolio ps (map (λ contract. contract.portfolio) contracts)) ≡ (list_any (bytes_eq p) ps || list_any (λ contract. bytes_eq p contract.portfolio) contracts)
any-fold p ps [] = sym (or_false (list_any (bytes_eq p) ps))
any-fold p ps (c ∷ cs) = any-fold p (with_portfolio ps c.portfolio) cs ∙ rw (any-with_portfolio p c.portfolio ps) (or_all (list_any (bytes_eq p) ps) (bytes_eq p c.portfolio) (list_any (λ contract. bytes_eq p contract.portfolio) cs))
  where
    or_all : (a b c : Bool) → ((a || b) || c) ≡ (a || (b || c))
    or_all true b c = refl
    or_all false b c = refl

-- the contract recorded last has its portfolio among them
pub portfolios_of-more : (contracts : List Contract) (contract : Contract) → portfolios_of (contracts ++ contract ∷ []) ≡ with_portfolio (portfolios_of contracts) contract.portfolio
unfolding portfolios_of
portfolios_of-more contracts contract =
    fold-map with_portfolio (λ (c : Contract). c.portfolio) [] (contracts ++ contract ∷ [])
    ∙ fold-append (λ ps (c : Contract). with_portfolio ps c.portfolio) [] contracts (contract ∷ [])
    ∙ ap (λ (ps : List (List ℕ)). with_portfolio ps contract.portfolio) (sym (fold-map with_portfolio (λ (c : Contract). c.portfolio) [] contracts))

-- those who have a contract are those
pub has_any_contract-is : (portfolio : List ℕ) (contracts : List Contract) → list_any (bytes_eq portfolio) (portfolios_of contracts) ≡ has_any_contract portfolio contracts
unfolding portfolios_of has_any_contract
has_any_contract-is portfolio contracts = any-fold portfolio [] contracts

pub flips : (p q : List ℕ) → bytes_eq p q ≡ bytes_eq q p
flips p q = same_codes.symm p q

all_behind : (p q : List ℕ) (ps : List (List ℕ)) → AllByRecursion (λ r. bytes_eq p r ≡ false) ps → bytes_eq p q ≡ false → AllByRecursion (λ r. bytes_eq p r ≡ false) (ps ++ q ∷ [])
all_behind p q [] h e = (e, tt)
all_behind p q (r ∷ rs) h e = (h.0, all_behind p q rs h.1 e)

distinct_behind : (q : List ℕ) (ps : List (List ℕ)) → IsDistinct bytes_eq ps → list_any (bytes_eq q) ps ≡ false → IsDistinct bytes_eq (ps ++ q ∷ [])
unfolding IsDistinct
distinct_behind q [] d e = (tt, tt)
distinct_behind q (p ∷ ps) d e =
    (all_behind p q ps d.0 (flips p q ∙ (or_parts _ _ e).0), distinct_behind q ps d.1 ((or_parts _ _ e).1))

distinct-with_portfolio : (q : List ℕ) (ps : List (List ℕ)) → IsDistinct bytes_eq ps → IsDistinct bytes_eq (with_portfolio ps q)
distinct-with_portfolio q ps d = chosen (list_any (bytes_eq q) ps) refl
  where
    chosen : (b : Bool) → list_any (bytes_eq q) ps ≡ b → IsDistinct bytes_eq (if b then ps else ps ++ q ∷ [])
    chosen true e = d
    chosen false e = distinct_behind q ps d e

distinct-fold : (ps qs : List (List ℕ)) → IsDistinct bytes_eq ps → IsDistinct bytes_eq (fold with_portfolio ps qs)
distinct-fold ps [] d = d
distinct-fold ps (q ∷ qs) d = distinct-fold (with_portfolio ps q) qs (distinct-with_portfolio q ps d)

none_distinct : IsDistinct bytes_eq []
unfolding IsDistinct
none_distinct = tt

-- each portfolio stands once
pub portfolios_of-distinct : (contracts : List Contract) → IsDistinct bytes_eq (portfolios_of contracts)
unfolding portfolios_of
portfolios_of-distinct contracts = distinct-fold [] (map (λ contract. contract.portfolio) contracts) none_distinct

-- ---- portfolios that stand once each, in two orders

-- without the first that is equal to a portfolio
abbrev pub removed : List ℕ → List (List ℕ) → List (List ℕ)
removed p [] = []
removed p (q ∷ qs) = if bytes_eq p q then qs else q ∷ removed p qs

pub moved_front : (p : List ℕ) (qs : List (List ℕ)) → list_any (bytes_eq p) qs ≡ true → IsPermutation (p ∷ removed p qs) qs
moved_front p [] e = absurd cc
moved_front p (q ∷ qs) e = by_test (bytes_eq p q) refl e (moved_front p qs)
  where
    by_test : (b : Bool) → bytes_eq p q ≡ b → (b || list_any (bytes_eq p) qs) ≡ true → (list_any (bytes_eq p) qs ≡ true → IsPermutation (p ∷ removed p qs) qs)
        → IsPermutation (p ∷ (if b then qs else q ∷ removed p qs)) (q ∷ qs)
    by_test true is any rest = subst (λ (r : List ℕ). IsPermutation (p ∷ qs) (r ∷ qs)) ((bytes_eq-Decides p q).0 is) (IsPermutation-refl (p ∷ qs))
    by_test false is any rest =
        IsPermutation-trans (p ∷ q ∷ removed p qs) (q ∷ p ∷ removed p qs) (q ∷ qs) (IsPermutation-middle (p ∷ []) q (removed p qs))
        (IsPermutation-cons q (p ∷ removed p qs) qs (rest any))

pub none_any : (p : List ℕ) (qs : List (List ℕ)) → AllByRecursion (λ r. bytes_eq p r ≡ false) qs → list_any (bytes_eq p) qs ≡ false
none_any p [] h = refl
none_any p (q ∷ qs) h = ap (λ (b : Bool). b || list_any (bytes_eq p) qs) h.0 ∙ none_any p qs h.1

-- whatever is asked of them, the two have the same portfolios behind a common one
pub rest_same : (r p : List ℕ) (b : Bool) (ps qs : List (List ℕ)) → bytes_eq r p ≡ b → list_any (bytes_eq p) ps ≡ false → list_any (bytes_eq p) qs ≡ false
    → (b || list_any (bytes_eq r) ps) ≡ (b || list_any (bytes_eq r) qs) → list_any (bytes_eq r) ps ≡ list_any (bytes_eq r) qs
rest_same r p true ps qs is none others same = list_any_congr same_codes r p ps is ∙ none ∙ sym others ∙ sym (list_any_congr same_codes r p qs is)
rest_same r p false ps qs is none others same = same

-- ---- what is made of each of them, one after another

blocks_swap : {Y : Type 0} (xs ys zs : List Y) → IsPermutation (xs ++ (ys ++ zs)) (ys ++ (xs ++ zs))
blocks_swap xs ys zs =
    subst (λ l. IsPermutation l (ys ++ (xs ++ zs))) (append_assoc xs ys zs)
    (subst (λ l. IsPermutation ((xs ++ ys) ++ zs) l) (append_assoc ys xs zs) (IsPermutation-append_left zs (xs ++ ys) (ys ++ xs) (IsPermutation-append_comm xs ys)))

module _ {Y : Type 0} (f : List ℕ → List Y) where
  rows_front : (p : List ℕ) (qs : List (List ℕ)) → list_any (bytes_eq p) qs ≡ true → IsPermutation (f p ++ flat_map f (removed p qs)) (flat_map f qs)
  rows_front p [] e = absurd cc
  rows_front p (q ∷ qs) e = by_test (bytes_eq p q) refl e (rows_front p qs)
    where
      by_test : (b : Bool) → bytes_eq p q ≡ b → (b || list_any (bytes_eq p) qs) ≡ true → (list_any (bytes_eq p) qs ≡ true → IsPermutation (f p ++ flat_map f (removed p qs)) (flat_map f qs))
          → IsPermutation (f p ++ flat_map f (if b then qs else q ∷ removed p qs)) (f q ++ flat_map f qs)
      by_test true is any rest = subst (λ (r : List ℕ). IsPermutation (f p ++ flat_map f qs) (f r ++ flat_map f qs)) ((bytes_eq-Decides p q).0 is) (IsPermutation-refl (f p ++ flat_map f qs))
      by_test false is any rest =
          IsPermutation-trans (f p ++ (f q ++ flat_map f (removed p qs))) (f q ++ (f p ++ flat_map f (removed p qs))) (f q ++ flat_map f qs)
          (blocks_swap (f p) (f q) (flat_map f (removed p qs)))
          (IsPermutation-append_right (f q) (f p ++ flat_map f (removed p qs)) (flat_map f qs) (rest any))

  -- of the same portfolios, each once, the same is made, in another order
  pub rows-moved : (ps qs : List (List ℕ)) → IsDistinct bytes_eq ps → IsDistinct bytes_eq qs → ((r : List ℕ) → list_any (bytes_eq r) ps ≡ list_any (bytes_eq r) qs)
      → IsPermutation (flat_map f ps) (flat_map f qs)
  unfolding IsDistinct
  rows-moved [] [] d e same = IsPermutation-refl []
  rows-moved [] (q ∷ qs) d e same =
      let found : (bytes_eq q q || list_any (bytes_eq q) qs) ≡ true = ap (λ (b : Bool). b || list_any (bytes_eq q) qs) (same_codes.refl q) in
      let bad : false ≡ true = same q ∙ found in cc
  rows-moved (p ∷ ps) qs d e same =
      let has : list_any (bytes_eq p) qs ≡ true = sym (same p) ∙ ap (λ (b : Bool). b || list_any (bytes_eq p) ps) (same_codes.refl p) in
      let front = moved_front p qs has in
      let apart = IsDistinct-IsPermutation bytes_eq flips qs (p ∷ removed p qs) (IsPermutation-sym (p ∷ removed p qs) qs front) e in
      let rest = rows-moved ps (removed p qs) d.1 apart.1
      (λ r.
      rest_same r p (bytes_eq r p) ps (removed p qs) refl (none_any p ps d.0) (none_any p (removed p qs) apart.0)
      (same r ∙ sym (list_any-IsPermutation (bytes_eq r) (p ∷ removed p qs) qs front))) in
      IsPermutation-trans (f p ++ flat_map f ps) (f p ++ flat_map f (removed p qs)) (flat_map f qs)
      (IsPermutation-append_right (f p) (flat_map f ps) (flat_map f (removed p qs)) rest) (rows_front p qs has)

-- lists of the same portfolios, each once, differ in their order alone
pub same_members : (ps qs : List (List ℕ)) → IsDistinct bytes_eq ps → IsDistinct bytes_eq qs → ((r : List ℕ) → list_any (bytes_eq r) ps ≡ list_any (bytes_eq r) qs) → IsPermutation ps qs
same_members ps qs d e same =
    subst (λ (l : List (List ℕ)). IsPermutation l qs) (each_alone ps) (subst (λ (l : List (List ℕ)). IsPermutation (flat_map (λ p. p ∷ []) ps) l) (each_alone qs) (rows-moved (λ p. p ∷ []) ps qs d e same))
  where
    each_alone : (ps : List (List ℕ)) → flat_map (λ p. p ∷ []) ps ≡ ps
    each_alone [] = refl
    each_alone (p ∷ ps) = ap (λ (l : List (List ℕ)). p ∷ l) (each_alone ps)

-- a contract is refused exactly where its portfolio is one too many, in whatever order they stand
pub refused-is : (ps : List (List ℕ)) (contracts : List Contract) (contract : Contract) → IsPermutation (portfolios_of contracts) ps → is_too_many ps contract.portfolio ≡ is_refused contract contracts
unfolding is_refused
refused-is ps contracts contract moved =
    let any = sym (list_any-IsPermutation (bytes_eq contract.portfolio) (portfolios_of contracts) ps moved) ∙ has_any_contract-is contract.portfolio contracts in
    let count = length_permutation (portfolios_of contracts) ps moved in
    λ i. not (any i) && nat_le most_portfolios (count i)

-- what the test answered is whether the contract is refused
pub refused-tested : (ps : List (List ℕ)) (contracts : List Contract) (capacity : Capacity) (contract : Contract) (answer : Bool) → IsPermutation (portfolios_of contracts) ps → contracts ≡ capacity.contracts
    → answer ≡ is_too_many ps contract.portfolio → answer ≡ is_refused contract capacity.contracts
refused-tested ps contracts capacity contract answer moved kept is = is ∙ refused-is ps contracts contract moved ∙ ap (is_refused contract) kept

with-moved : (p : List ℕ) (b : Bool) (ps qs : List (List ℕ)) → IsPermutation ps qs → IsPermutation (if b then ps else ps ++ p ∷ []) (if b then qs else qs ++ p ∷ [])
with-moved p true ps qs moved = moved
with-moved p false ps qs moved = IsPermutation-append_left (p ∷ []) ps qs moved

-- one more portfolio, in whatever order they stand
pub with_portfolio-moved : (p : List ℕ) (ps qs : List (List ℕ)) → IsPermutation ps qs → IsPermutation (with_portfolio ps p) (with_portfolio qs p)
with_portfolio-moved p ps qs moved =
    subst (λ (b : Bool). IsPermutation (with_portfolio ps p) (if b then qs else qs ++ p ∷ [])) (list_any-IsPermutation (bytes_eq p) ps qs moved)
    (with-moved p (list_any (bytes_eq p) ps) ps qs moved)

-- ---- a portfolio that is known is among them

any_contract : (portfolio : List ℕ) (day : Date) (contracts : List Contract) → list_any (is_of portfolio day) contracts ≡ true → list_any (λ contract. bytes_eq portfolio contract.portfolio) contracts ≡ true
any_contract portfolio day [] e = absurd cc
any_contract portfolio day (c ∷ cs) e = by_test (is_of portfolio day c) refl e (any_contract portfolio day cs)
  where
    front : (b rest : Bool) → b ≡ true → (b || rest) ≡ true
    front true rest is = refl
    front false rest is = absurd cc

    behind : (b rest : Bool) → rest ≡ true → (b || rest) ≡ true
    behind true rest is = refl
    behind false rest is = is

    by_test : (b : Bool) → is_of portfolio day c ≡ b → (b || list_any (is_of portfolio day) cs) ≡ true
        → (list_any (is_of portfolio day) cs ≡ true → list_any (λ contract. bytes_eq portfolio contract.portfolio) cs ≡ true) → (bytes_eq portfolio c.portfolio || list_any (λ contract. bytes_eq portfolio contract.portfolio) cs) ≡ true
    by_test true is so later = front (bytes_eq portfolio c.portfolio) (list_any (λ contract. bytes_eq portfolio contract.portfolio) cs) (flips portfolio c.portfolio ∙ (and_parts (bytes_eq c.portfolio portfolio) (same_day c.day day) is).0)
    by_test false is so later = behind (bytes_eq portfolio c.portfolio) (list_any (λ contract. bytes_eq portfolio contract.portfolio) cs) (later so)

among : (portfolio : List ℕ) (portfolios : List (List ℕ)) → list_any (bytes_eq portfolio) portfolios ≡ true → In portfolio portfolios
among portfolio [] e = absurd cc
among portfolio (p ∷ ps) e = by_test (bytes_eq portfolio p) refl e (among portfolio ps)
  where
    by_test : (b : Bool) → bytes_eq portfolio p ≡ b → (b || list_any (bytes_eq portfolio) ps) ≡ true → (list_any (bytes_eq portfolio) ps ≡ true → In portfolio ps) → In portfolio (p ∷ ps)
    by_test true is so later = inl (sym ((bytes_eq-Decides portfolio p).0 is))
    by_test false is so later = inr (later so)

pub known_in : (contracts : List Contract) (day : Date) (portfolio : List ℕ) → knows portfolio day contracts ≡ true → In portfolio (portfolios_of contracts)
unfolding knows has_any_contract
known_in contracts day portfolio e = among portfolio (portfolios_of contracts) (has_any_contract-is portfolio contracts ∙ any_contract portfolio day contracts e)

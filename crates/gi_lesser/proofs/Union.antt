-- The keys of two lists, in table order: which they are, and how they part.
use Rattle.std.proofs.Common.{◌≡◌, List, [], ◌∷◌, ◌++◌, true, false, Bool, ◌⊎◌, inl, inr, refl, sym, ap, ◌∙◌, subst, if◌then◌else◌}
use Rattle.std.specs.declared.cmp.Ordering.{Ordering}
use Rattle.std.specs.declared.cmp.Ordering.TheVariants.{Less, Equal, Greater}
use Rattle.std.specs.List.{AllByRecursion}
use Rattle.std.specs.List.Sorted.{IsStrictlySortedBy}
use Rattle.std.specs.Ordering.{is_eq, is_lt, ordering_reverse}
use Rattle.gi_pairs.specs.Key.{key_cmp}
use Rattle.gi_pairs.specs.declared.key.Key.{Key}
use Rattle.gi_pairs.proofs.Building.{In}
use Rattle.gi_pairs.proofs.KeyOrder.{key_total, key_same, less_from_not}
use Rattle.gi_lesser.specs.Walk.{union_of, with_key}

-- each key of the one list comes before each of the other
abbrev pub Below : List Key → List Key → Type 0
Below ks ls = (k l : Key) → In k ks → In l ls → key_cmp k l ≡ Less

-- ---- which keys they are

one_of_three : (b c : Bool) (m key k : Key) (ks rest : List Key) → In m (if b then key ∷ k ∷ ks else (if c then k ∷ ks else k ∷ rest))
    → (In m rest → (key ≡ m) ⊎ In m ks) → (key ≡ m) ⊎ In m (k ∷ ks)
one_of_three true c m key k ks rest (inl e) f = inl e
one_of_three true c m key k ks rest (inr h) f = inr h
one_of_three false true m key k ks rest h f = inr h
one_of_three false false m key k ks rest (inl e) f = inr (inl e)
one_of_three false false m key k ks rest (inr h) f = elim (f h) [ inl e ↦ inl e | inr j ↦ inr (inr j) ]

from_with_key : (m key : Key) (ks : List Key) → In m (with_key key ks) → (key ≡ m) ⊎ In m ks
from_with_key m key [] (inl e) = inl e
from_with_key m key [] (inr h) = absurd h
from_with_key m key (k ∷ ks) h = one_of_three (is_lt (key_cmp key k)) (is_eq (key_cmp key k)) m key k ks (with_key key ks) h (from_with_key m key ks)

kept_of_three : (b c : Bool) (m key k : Key) (ks rest : List Key) → In m (k ∷ ks) → (In m ks → In m rest)
    → In m (if b then key ∷ k ∷ ks else (if c then k ∷ ks else k ∷ rest))
kept_of_three true c m key k ks rest h f = inr h
kept_of_three false true m key k ks rest h f = h
kept_of_three false false m key k ks rest (inl e) f = inl e
kept_of_three false false m key k ks rest (inr h) f = inr (f h)

in_with_key : (m key : Key) (ks : List Key) → In m ks → In m (with_key key ks)
in_with_key m key [] h = absurd h
in_with_key m key (k ∷ ks) h = kept_of_three (is_lt (key_cmp key k)) (is_eq (key_cmp key k)) m key k ks (with_key key ks) h (in_with_key m key ks)

the_key : (b c : Bool) (key k : Key) (ks rest : List Key) → is_eq (key_cmp key k) ≡ c → In key rest
    → In key (if b then key ∷ k ∷ ks else (if c then k ∷ ks else k ∷ rest))
the_key true c key k ks rest e h = inl refl
the_key false true key k ks rest e h = inl (sym (key_same key k e))
the_key false false key k ks rest e h = inr h

key_in : (key : Key) (ks : List Key) → In key (with_key key ks)
key_in key [] = inl refl
key_in key (k ∷ ks) = the_key (is_lt (key_cmp key k)) (is_eq (key_cmp key k)) key k ks (with_key key ks) refl (key_in key ks)

pub from_union : (m : Key) (ks ls : List Key) → In m (union_of ks ls) → In m ks ⊎ In m ls
from_union m [] ls h = inr h
from_union m (k ∷ ks) ls h =
    elim (from_with_key m k (union_of ks ls) h) [ inl e ↦ inl (inl e) | inr j ↦ elim (from_union m ks ls j) [ inl i ↦ inl (inr i) | inr i ↦ inr i ] ]

pub union_left : (m : Key) (ks ls : List Key) → In m ks → In m (union_of ks ls)
union_left m [] ls h = absurd h
union_left m (k ∷ ks) ls (inl e) = subst (λ (n : Key). In n (with_key k (union_of ks ls))) e (key_in k (union_of ks ls))
union_left m (k ∷ ks) ls (inr h) = in_with_key m k (union_of ks ls) (union_left m ks ls h)

pub union_right : (m : Key) (ks ls : List Key) → In m ls → In m (union_of ks ls)
union_right m [] ls h = h
union_right m (k ∷ ks) ls h = in_with_key m k (union_of ks ls) (union_right m ks ls h)

-- ---- their order

all_by : (key : Key) (ks : List Key) → ((m : Key) → In m ks → key_cmp key m ≡ Less) → AllByRecursion (λ m. key_cmp key m ≡ Less) ks
all_by key [] f = tt
all_by key (k ∷ ks) f = (f k (inl refl), all_by key ks (λ m h. f m (inr h)))

from_all : (key : Key) (ks : List Key) → AllByRecursion (λ m. key_cmp key m ≡ Less) ks → (m : Key) → In m ks → key_cmp key m ≡ Less
from_all key [] all m h = absurd h
from_all key (k ∷ ks) all m (inl e) = subst (λ (n : Key). key_cmp key n ≡ Less) e all.0
from_all key (k ∷ ks) all m (inr h) = from_all key ks all.1 m h

-- the head of keys in order comes before the rest
pub head_below : (k : Key) (ks : List Key) → IsStrictlySortedBy key_cmp (k ∷ ks) → (m : Key) → In m ks → key_cmp k m ≡ Less
unfolding IsStrictlySortedBy
head_below k ks sorted = from_all k ks sorted.0

is_less : (o : Ordering) → is_lt o ≡ true → o ≡ Less
is_less Less e = refl
is_less Equal e = cc
is_less Greater e = cc

not_less : (o : Ordering) → is_lt o ≡ false → o ≡ Less → ⊥
not_less o e less = let yes : is_lt o ≡ true = ap is_lt less in cc

below_all : (key k : Key) (ks : List Key) → key_cmp key k ≡ Less → AllByRecursion (λ m. key_cmp k m ≡ Less) ks → AllByRecursion (λ m. key_cmp key m ≡ Less) ks
below_all key k ks less all = all_by key ks (λ m h. key_total.trans key k m less (from_all k ks all m h))

sorted_with_key : (key : Key) (ks : List Key) → IsStrictlySortedBy key_cmp ks → IsStrictlySortedBy key_cmp (with_key key ks)
unfolding IsStrictlySortedBy
sorted_with_key key [] s = (tt, tt)
sorted_with_key key (k ∷ ks) s = placed (is_lt (key_cmp key k)) (is_eq (key_cmp key k)) refl refl (sorted_with_key key ks s.1)
  where
    placed : (b c : Bool) → is_lt (key_cmp key k) ≡ b → is_eq (key_cmp key k) ≡ c → IsStrictlySortedBy key_cmp (with_key key ks)
        → IsStrictlySortedBy key_cmp (if b then key ∷ k ∷ ks else (if c then k ∷ ks else k ∷ with_key key ks))
    placed true c e f rest = let less = is_less (key_cmp key k) e in ((less, below_all key k ks less s.0), s)
    placed false true e f rest = s
    placed false false e f rest =
        let above = less_from_not key k (not_less (key_cmp key k) e) f in
        (all_by k (with_key key ks) (λ m h. elim (from_with_key m key ks h) [ inl is ↦ subst (λ (n : Key). key_cmp k n ≡ Less) is above | inr j ↦ from_all k ks s.0 m j ]), rest)

-- the keys of both are in table order where those of the second are
pub sorted_union : (ks ls : List Key) → IsStrictlySortedBy key_cmp ls → IsStrictlySortedBy key_cmp (union_of ks ls)
sorted_union [] ls s = s
sorted_union (k ∷ ks) ls s = sorted_with_key k (union_of ks ls) (sorted_union ks ls s)

-- ---- how they part

past : (key : Key) (ks ls : List Key) → ((m : Key) → In m ks → key_cmp m key ≡ Less) → with_key key (ks ++ ls) ≡ ks ++ with_key key ls
past key [] ls above = refl
past key (k ∷ ks) ls above =
    let reversed : key_cmp key k ≡ Greater = key_total.antisymm key k ∙ ap ordering_reverse (above k (inl refl)) in
    let lt : is_lt (key_cmp key k) ≡ false = ap is_lt reversed in
    let eq : is_eq (key_cmp key k) ≡ false = ap is_eq reversed in
    rw (lt, eq) (ap (λ (l : List Key). k ∷ l) (past key ks ls (λ m h. above m (inr h))))

first_of : (key : Key) (ls : List Key) → ((m : Key) → In m ls → key_cmp key m ≡ Less) → with_key key ls ≡ key ∷ ls
first_of key [] below = refl
first_of key (l ∷ ls) below = let lt : is_lt (key_cmp key l) ≡ true = ap is_lt (below l (inl refl)) in rw lt refl

chosen_apart : (b c : Bool) (key k : Key) (ks ls rest both : List Key) → both ≡ rest ++ ls
    → (if b then key ∷ k ∷ (ks ++ ls) else (if c then k ∷ (ks ++ ls) else k ∷ both)) ≡ (if b then key ∷ k ∷ ks else (if c then k ∷ ks else k ∷ rest)) ++ ls
chosen_apart true c key k ks ls rest both e = refl
chosen_apart false true key k ks ls rest both e = refl
chosen_apart false false key k ks ls rest both e = ap (λ (l : List Key). k ∷ l) e

before : (key : Key) (ks ls : List Key) → ((m : Key) → In m ls → key_cmp key m ≡ Less) → with_key key (ks ++ ls) ≡ with_key key ks ++ ls
before key [] ls below = first_of key ls below
before key (k ∷ ks) ls below =
    chosen_apart (is_lt (key_cmp key k)) (is_eq (key_cmp key k)) key k ks ls (with_key key ks) (with_key key (ks ++ ls)) (before key ks ls below)

upper_part : (b c d : List Key) → Below c b → union_of b (c ++ d) ≡ c ++ union_of b d
upper_part [] c d apart = refl
upper_part (k ∷ ks) c d apart =
    ap (with_key k) (upper_part ks c d (λ m l h j. apart m l h (inr j)))
    ∙ past k c (union_of ks d) (λ m h. apart m k h (inl refl))

-- where all of a and c comes before all of b and d, the keys of both are those of a and c, and then those of b and d
pub union_parts : (a b c d : List Key) → Below a b → Below a d → Below c b → union_of (a ++ b) (c ++ d) ≡ union_of a c ++ union_of b d
union_parts [] b c d ab ad cb = upper_part b c d cb
union_parts (k ∷ ks) b c d ab ad cb =
    ap (with_key k) (union_parts ks b c d (λ m l h j. ab m l (inr h) j) (λ m l h j. ad m l (inr h) j) cb)
    ∙ before k (union_of ks c) (union_of b d) (λ m h. elim (from_union m b d h) [ inl j ↦ ab k m (inl refl) j | inr j ↦ ad k m (inl refl) j ])

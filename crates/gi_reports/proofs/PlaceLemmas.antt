-- Where elements stand first.
use Rattle.std.proofs.Common.{◌≡◌, ◌<◌, ◌↔◌, ◌+◌, ℕ, List, [], ◌∷◌, filter, Bool, true, false, not, cond, refl, sym, ap, ◌∙◌, arith}
use Rattle.std.specs.List.{IsDistinct, list_any}
use Rattle.std.specs.Map.{keys_of}
use Rattle.gi_reports.specs.Laws.{first_place, stands_in}
use Rattle.gi_reports.specs.Refused.{first_places, refused_counts, same}
use Rattle.gi_reports.proofs.CountLemmas.{Who, counted_by, distinct_first, others, same_is, stands_first}

keys_are : (count : Who → ℕ) (xs : List Who) → keys_of (counted_by count xs) ≡ xs
keys_are count [] = refl
keys_are count (x ∷ xs) = ap (λ (l : List Who). x ∷ l) (keys_are count xs)

pub counted_first : (xs : List Who) → keys_of (refused_counts xs) ≡ first_places xs
unfolding refused_counts
counted_first xs = keys_are _ (first_places xs)

-- one item more in front of both lists
shifted : (a b : Bool) (m n k l : ℕ) → (a ≡ false → b ≡ false → (m < n) ↔ (k < l))
    → (cond (not a) (1 + m) 0 < cond (not b) (1 + n) 0) ↔ (cond (not a) (1 + k) 0 < cond (not b) (1 + l) 0)
shifted true true m n k l rest = (λ h. h, λ h. h)
shifted true false m n k l rest = (λ h. omega arith, λ h. omega arith)
shifted false true m n k l rest = (λ h. absurd (omega (arith, h)), λ h. absurd (omega (arith, h)))
shifted false false m n k l rest =
    let both = rest refl refl in
    (λ h. let next = both.0 (omega (arith, h)) in omega (arith, next), λ h. let next = both.1 (omega (arith, h)) in omega (arith, next))

-- a place in a list, by that in the list without one other element
passed : (a who x : Who) → same a x ≡ true → same who a ≡ false → same who x ≡ false
passed a who x here differ = ap (same who) (sym (same_is a x here)) ∙ differ

others_keep : (a who other : Who) (xs : List Who) → same who a ≡ false → same other a ≡ false
    → (first_place who (filter (others a) xs) < first_place other (filter (others a) xs)) ↔ (first_place who xs < first_place other xs)
others_keep a who other [] w o = (λ h. h, λ h. h)
others_keep a who other (x ∷ xs) w o = by (same a x) refl (others_keep a who other xs w o)
  where
    by : (b : Bool) → same a x ≡ b → (first_place who (filter (others a) xs) < first_place other (filter (others a) xs)) ↔ (first_place who xs < first_place other xs)
        → (first_place who (cond (not b) (x ∷ filter (others a) xs) (filter (others a) xs)) < first_place other (cond (not b) (x ∷ filter (others a) xs) (filter (others a) xs)))
        ↔ (first_place who (x ∷ xs) < first_place other (x ∷ xs))
    by true e rest =
        let who_is : first_place who (x ∷ xs) ≡ 1 + first_place who xs = ap (λ b. cond (not b) (1 + first_place who xs) 0) (passed a who x e w) in
        let other_is : first_place other (x ∷ xs) ≡ 1 + first_place other xs = ap (λ b. cond (not b) (1 + first_place other xs) 0) (passed a other x e o) in
        (λ h. let next = rest.0 h in omega (arith, next, who_is, other_is), λ h. rest.1 (omega (arith, h, who_is, other_is)))
    by false e rest = shifted (same who x) (same other x) _ _ _ _ (λ _ _. rest)

first_keep : (who other : Who) (xs : List Who) → (first_place who (first_places xs) < first_place other (first_places xs)) ↔ (first_place who xs < first_place other xs)
unfolding first_places
first_keep who other [] = (λ h. h, λ h. h)
first_keep who other (a ∷ later) = by (first_keep who other later)
  where
    by : (first_place who (first_places later) < first_place other (first_places later)) ↔ (first_place who later < first_place other later)
        → (first_place who (a ∷ filter (others a) (first_places later)) < first_place other (a ∷ filter (others a) (first_places later)))
        ↔ (first_place who (a ∷ later) < first_place other (a ∷ later))
    by rest = shifted (same who a) (same other a) _ _ _ _ (λ w o.
        let kept = others_keep a who other (first_places later) w o in
        (λ h. rest.0 (kept.0 h), λ h. kept.1 (rest.1 h)))

pub counted_keep : (xs : List Who) (who other : Who) → (first_place who (keys_of (refused_counts xs)) < first_place other (keys_of (refused_counts xs))) ↔ (first_place who xs < first_place other xs)
counted_keep xs who other = rw (counted_first xs) (first_keep who other xs)

pub counted_distinct : (xs : List Who) → IsDistinct same (keys_of (refused_counts xs))
counted_distinct xs = rw (counted_first xs) (distinct_first xs)

pub counted_stand : (xs : List Who) (who : Who) → stands_in who (keys_of (refused_counts xs)) ≡ stands_in who xs
counted_stand xs who = ap (list_any (same who)) (counted_first xs) ∙ stands_first who xs

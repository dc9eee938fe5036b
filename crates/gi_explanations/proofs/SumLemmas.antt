-- The sums of a nomination's lines.
use Rattle.std.proofs.Common.{arith, ◌≡◌, ◌<◌, ◌≤◌, ◌+◌, ℕ, List, [], ◌∷◌, length, take, get_or, filter, Bool, true, false, not, cond, ◌&&◌, Option, Some, None, refl, sym, ap, ◌∙◌, take_all}
use Rattle.std.specs.List.{sum_by}
use Rattle.std.proofs.lemmas.List.Filters.{sum_by-filter_both}
use Rattle.std.proofs.lemmas.List.Sums.{sum_by-cons, sum_by_push}
use Rattle.gi_pairs.specs.declared.direction.Direction.{Direction}
use Rattle.gi_messages.specs.declared.nomination_line.NominationLine.{NominationLine}
use Rattle.gi_processing.specs.Reduction.{in_direction, is_before, is_in, is_up_to, quantity_at, sum_before, sum_up_to, total}
use Rattle.gi_processing.specs.declared.rule.Rule.{Rule}
use Rattle.gi_processing.specs.declared.rule.Rule.TheVariants.{One, Two}
use Rattle.gi_desk.proofs.HistoryLaws.{one_more}
use Rattle.gi_explanations.specs.Sums.{group_for, is_of_group, share_of, sharing_with, sum_over}
use Rattle.gi_explanations.specs.declared.lines.Group.{Group}
use Rattle.gi_explanations.specs.declared.lines.Span.{Span}
use Rattle.gi_explanations.specs.declared.lines.Span.TheVariants.{Before, UpTo, All}

all_pass : (lines : List NominationLine) → filter (λ line. true) lines ≡ lines
all_pass [] = refl
all_pass (x ∷ xs) = ap (λ (ls : List NominationLine). x ∷ ls) (all_pass xs)

-- the group of a rule is those that share by it
pub group-shares : (rule : Rule) (line : Option NominationLine) (lines : List NominationLine) → filter (is_of_group (group_for rule line)) lines ≡ sharing_with rule line lines
group-shares One None lines = all_pass lines
group-shares One (Some line) lines = all_pass lines
group-shares Two None lines = all_pass lines
group-shares Two (Some line) lines = refl

-- what lines add where they pass three tests, one after the other
three : (p q r : NominationLine → Bool) (f : NominationLine → ℕ) (lines : List NominationLine) → sum_by (λ line. cond (p line && q line && r line) (f line) 0) lines ≡ sum_by f (filter r (filter q (filter p lines)))
three p q r f [] = refl
three p q r f (x ∷ xs) = sum_by-cons (λ (line : NominationLine). cond (p line && q line && r line) (f line) 0) x xs ∙ by (p x) (three p q r f xs)
  where
    rest : ℕ
    rest = sum_by (λ line. cond (p line && q line && r line) (f line) 0) xs

    by_third : (b : Bool) → rest ≡ sum_by f (filter r (filter q (filter p xs))) → cond b (f x) 0 + rest ≡ sum_by f (cond b (x ∷ filter r (filter q (filter p xs))) (filter r (filter q (filter p xs))))
    by_third true same = ap (λ n. f x + n) same ∙ sym (sum_by-cons f x (filter r (filter q (filter p xs))))
    by_third false same = omega (arith, same)

    by_second : (b : Bool) → rest ≡ sum_by f (filter r (filter q (filter p xs))) → cond (b && r x) (f x) 0 + rest ≡ sum_by f (filter r (cond b (x ∷ filter q (filter p xs)) (filter q (filter p xs))))
    by_second true same = by_third (r x) same
    by_second false same = omega (arith, same)

    by : (b : Bool) → rest ≡ sum_by f (filter r (filter q (filter p xs))) → cond (b && q x && r x) (f x) 0 + rest ≡ sum_by f (filter r (filter q (cond b (x ∷ filter p xs) (filter p xs))))
    by true same = by_second (q x) same
    by false same = omega (arith, same)

pub shares-sum : (span : Span) (group : Group) (code : List ℕ) (direction : Direction) (index : ℕ) (lines : List NominationLine)
    → sum_by (share_of span group code direction index) lines ≡ sum_over span code index (filter (is_of_group group) (in_direction direction lines))
shares-sum Before group code direction index lines = three (is_in direction) (is_of_group group) (is_before code) (quantity_at index) lines
shares-sum UpTo group code direction index lines = three (is_in direction) (is_of_group group) (is_up_to code) (quantity_at index) lines
shares-sum All group code direction index lines =
    three (is_in direction) (is_of_group group) (λ line. true) (quantity_at index) lines
    ∙ ap (sum_by (quantity_at index)) (all_pass (filter (is_of_group group) (in_direction direction lines)))

within : (p : NominationLine → Bool) (f : NominationLine → ℕ) (lines : List NominationLine) → sum_by f (filter p lines) ≤ sum_by f lines
within p f lines = let parts = sum_by-filter_both p (λ line. not (p line)) (λ line. refl) f lines in omega (arith, parts)

pub before-within : (code : List ℕ) (index : ℕ) (lines : List NominationLine) → sum_before code index lines ≤ total index lines
before-within code index lines = within (is_before code) (quantity_at index) lines

pub up_to-within : (code : List ℕ) (index : ℕ) (lines : List NominationLine) → sum_up_to code index lines ≤ total index lines
up_to-within code index lines = within (is_up_to code) (quantity_at index) lines

-- ---- going over the lines

pub sum-step : (f : NominationLine → ℕ) (lines : List NominationLine) (i : ℕ) (item : NominationLine) (sum share : ℕ) → i < length lines → item ≡ get_or lines i item
    → sum ≡ sum_by f (take i lines) → share ≡ f item → sum + share ≡ sum_by f (take (i + 1) lines)
sum-step f lines i item sum share below is sum_is share_is =
    (λ t. sum_is t + share_is t) ∙ sym (ap (sum_by f) (one_more lines i item below is) ∙ sum_by_push f (take i lines) item)

pub sum-all : (span : Span) (group : Group) (code : List ℕ) (direction : Direction) (index : ℕ) (lines : List NominationLine) (n sum : ℕ) → length lines ≤ n
    → sum ≡ sum_by (share_of span group code direction index) (take n lines) → sum ≡ sum_over span code index (filter (is_of_group group) (in_direction direction lines))
sum-all span group code direction index lines n sum all sum_is =
    sum_is ∙ ap (sum_by (share_of span group code direction index)) (take_all n lines all) ∙ shares-sum span group code direction index lines

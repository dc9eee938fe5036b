-- The processed quantity, from the numbers that it is made of.
use Rattle.std.proofs.Common.{arith, ◌≡◌, ◌≤◌, ◌-◌, ℕ, List, [], ◌∷◌, filter, find, Bool, true, false, cond, nat_eq, Option, Some, None, refl, sym, ap, ◌∙◌}
use Rattle.std.specs.Str.{bytes_eq}
use Rattle.std.proofs.lemmas.Bool.{and_parts}
use Rattle.std.proofs.lemmas.Option.{same_Some}
use Rattle.std.proofs.lemmas.Slice.Eq.{bytes_eq-Decides}
use Rattle.gi_pairs.specs.Direction.{place_of}
use Rattle.gi_pairs.specs.declared.direction.Direction.{Direction}
use Rattle.gi_pairs.specs.declared.direction.Direction.TheVariants.{IM, MI}
use Rattle.gi_pairs.specs.declared.side.Side.{Side}
use Rattle.gi_messages.specs.declared.nomination_line.NominationLine.{NominationLine}
use Rattle.gi_processing.specs.Capacity.{available, left_of, parts}
use Rattle.gi_processing.specs.HoursLeft.{left_under}
use Rattle.gi_processing.specs.Processing.{available_to, lines_of, processed_in}
use Rattle.gi_processing.specs.Reduction.{in_direction, is_in, part, part_by, quantity_at, sum_before, sum_up_to, total}
use Rattle.gi_processing.specs.declared.contract.Contract.{Contract}
use Rattle.gi_processing.specs.declared.notice.Notice.{Notice}
use Rattle.gi_processing.specs.declared.rule.Rule.{Rule}
use Rattle.gi_facts.specs.declared.fact.Fact.{Fact}
use Rattle.gi_explanations.specs.Basis.{asked_rule, counted_capacity, nominated_line, standing_contract, standing_nomination, standing_notice}
use Rattle.gi_explanations.specs.Numbers.{counterparty, own}
use Rattle.gi_explanations.specs.Reduction.{amounts, amounts_of, available_quantity, is_covered, processed_line_quantity, processed_quantity, reduced}
use Rattle.gi_explanations.specs.Sums.{group_for, is_line, is_of_group, line_for, sharing_with, sum_served_before}
use Rattle.gi_explanations.specs.declared.lines.Group.{Group}
use Rattle.gi_explanations.specs.declared.question.Question.{Question}
use Rattle.gi_explanations.specs.declared.reduction.Amounts.{Amounts}
use Rattle.gi_explanations.proofs.SumLemmas.{group-shares}

-- what a contract leaves, by the thousandths that the notice leaves
pub left-parts : (contract : Contract) (notice : Option Notice) → parts contract (left_under notice).firm (left_under notice).interruptible ≡ left_of (Some contract) notice
left-parts contract None = refl
left-parts contract (Some notice) = refl

pub available-is : (side : Side) (facts : List Fact) (q : Question) (c : Option Contract) (o : Option Notice) (n : ℕ) → n ≡ left_of c o → c ≡ standing_contract side facts q → o ≡ standing_notice facts q
    → n ≡ available_quantity side facts q
unfolding available
available-is side facts q c o n n_is c_is o_is = n_is ∙ (λ t. left_of (c_is t) (o_is t))

pub amounts-are : (side : Side) (facts : List Fact) (q : Question) (a : Amounts) (rule : Rule) (line : Option NominationLine) (n : ℕ) (lines : List NominationLine)
    → a ≡ amounts_of rule line n (counterparty side q) (q.hour - 1) (in_direction q.direction lines) → rule ≡ asked_rule facts q → line ≡ nominated_line side q (standing_nomination side facts q)
    → n ≡ available_quantity side facts q → lines ≡ lines_of (standing_nomination side facts q) → a ≡ amounts side facts q
amounts-are side facts q a rule line n lines a_is rule_is line_is n_is lines_is =
    a_is ∙ (λ t. amounts_of (rule_is t) (line_is t) (n_is t) (counterparty side q) (q.hour - 1) (in_direction q.direction (lines_is t)))

-- no nomination has no line, and takes nothing
amounts-of-none : (rule : Rule) (n : ℕ) (code : List ℕ) (index : ℕ) → record { available = n; nominated_before = 0; left = n; before = 0; up_to = 0; all = 0 } ≡ amounts_of rule None n code index []
amounts-of-none rule n code index = let same : n ≡ n - 0 = omega arith in λ t. record { available = n; nominated_before = 0; left = same t; before = 0; up_to = 0; all = 0 }

pub amounts-none : (side : Side) (facts : List Fact) (q : Question) (n : ℕ) → n ≡ available_quantity side facts q → None ≡ standing_nomination side facts q
    → record { available = n; nominated_before = 0; left = n; before = 0; up_to = 0; all = 0 } ≡ amounts side facts q
amounts-none side facts q n n_is none_is =
    amounts-of-none (asked_rule facts q) n (counterparty side q) (q.hour - 1)
    ∙ (λ t. amounts_of (asked_rule facts q) (nominated_line side q (none_is t)) (n_is t) (counterparty side q) (q.hour - 1) (in_direction q.direction (lines_of (none_is t))))

-- ---- the line that is found

found-passes : (p : NominationLine → Bool) (lines : List NominationLine) (l : NominationLine) → find p lines ≡ Some l → p l ≡ true
found-passes p [] l e = absurd cc
found-passes p (x ∷ xs) l e = by (p x) refl e (found-passes p xs l)
  where
    by : (b : Bool) → p x ≡ b → cond b (Some x) (find p xs) ≡ Some l → (find p xs ≡ Some l → p l ≡ true) → p l ≡ true
    by true is e rest = ap p (sym (same_Some x l e)) ∙ is
    by false is e rest = rest e

same_direction : (a b : Direction) → nat_eq (place_of a) (place_of b) ≡ true → a ≡ b
same_direction IM IM e = refl
same_direction IM MI e = absurd cc
same_direction MI IM e = absurd cc
same_direction MI MI e = refl

pub record IsFor (code : List ℕ) (direction : Direction) (l : NominationLine) : Type 0 where
  pub code_is : l.counterparty ≡ code
  pub direction_is : l.direction ≡ direction

pub found-for : (code : List ℕ) (direction : Direction) (lines : List NominationLine) (l : NominationLine) → line_for code direction lines ≡ Some l → IsFor code direction l
found-for code direction lines l e =
    let both = and_parts (bytes_eq l.counterparty code) (is_in direction l) (found-passes (is_line code direction) lines l e) in
    record { code_is = (bytes_eq-Decides l.counterparty code).0 both.0; direction_is = same_direction l.direction direction both.1 }

-- ---- its part

part-of : (rule : Rule) (left : Direction → ℕ) (index : ℕ) (lines : List NominationLine) (l : NominationLine) (code : List ℕ) (direction : Direction) → IsFor code direction l
    → reduced (amounts_of rule (Some l) (left direction) code index (in_direction direction lines)) (quantity_at index l) ≡ part_by rule (left l.direction) index (in_direction l.direction lines) l
unfolding part
part-of rule left index lines l code direction is =
    let code_is = sym is.code_is in
    let direction_is = sym is.direction_is in
    λ t. reduced (amounts_of rule (Some l) (left (direction_is t)) (code_is t) index (in_direction (direction_is t) lines)) (quantity_at index l)

pub processed-found : (side : Side) (facts : List Fact) (q : Question) (a : Amounts) (nominated result : ℕ) (l : NominationLine) → is_covered q ≡ true
    → Some l ≡ nominated_line side q (standing_nomination side facts q) → a ≡ amounts side facts q → nominated ≡ quantity_at (q.hour - 1) l → result ≡ reduced a nominated
    → result ≡ processed_quantity side facts q
unfolding processed_quantity processed_in
processed-found side facts q a nominated result l covered line_is a_is nominated_is result_is =
    let lines = lines_of (standing_nomination side facts q) in
    let rule = asked_rule facts q in
    let found = found-for (counterparty side q) q.direction lines l (sym line_is) in
    let here = ap (λ (o : Option NominationLine). amounts_of rule o (available_quantity side facts q) (counterparty side q) (q.hour - 1) (in_direction q.direction lines)) (sym line_is) in
    result_is ∙ (λ t. reduced ((a_is ∙ here) t) (nominated_is t))
    ∙ part-of rule (λ (d : Direction). available_to (counted_capacity facts q) (own side q) q.id.day d q.hour) (q.hour - 1) lines l (counterparty side q) q.direction found
    ∙ ap (processed_line_quantity side facts q) line_is
    ∙ ap (λ (b : Bool). cond b (processed_line_quantity side facts q (nominated_line side q (standing_nomination side facts q))) 0) (sym covered)

pub processed-none : (side : Side) (facts : List Fact) (q : Question) → is_covered q ≡ true → None ≡ nominated_line side q (standing_nomination side facts q) → 0 ≡ processed_quantity side facts q
unfolding processed_quantity
processed-none side facts q covered line_is =
    ap (processed_line_quantity side facts q) line_is
    ∙ ap (λ (b : Bool). cond b (processed_line_quantity side facts q (nominated_line side q (standing_nomination side facts q))) 0) (sym covered)

pub processed-outside : (side : Side) (facts : List Fact) (q : Question) → is_covered q ≡ false → 0 ≡ processed_quantity side facts q
unfolding processed_quantity
processed-outside side facts q covered =
    ap (λ (b : Bool). cond b (processed_line_quantity side facts q (nominated_line side q (standing_nomination side facts q))) 0) (sym covered)

-- ---- what is shown

pub processed-shown : (side : Side) (facts : List Fact) (q : Question) (line : NominationLine) → is_covered q ≡ true → nominated_line side q (standing_nomination side facts q) ≡ Some line
    → processed_quantity side facts q ≡ reduced (amounts side facts q) (quantity_at (q.hour - 1) line)
processed-shown side facts q line covered line_is =
    sym (processed-found side facts q (amounts side facts q) (quantity_at (q.hour - 1) line) (reduced (amounts side facts q) (quantity_at (q.hour - 1) line)) line covered (sym line_is) refl refl refl)

pub available-shown : (side : Side) (facts : List Fact) (q : Question) (contract : Contract) → standing_contract side facts q ≡ Some contract
    → available_quantity side facts q ≡ parts contract (left_under (standing_notice facts q)).firm (left_under (standing_notice facts q)).interruptible
available-shown side facts q contract contract_is =
    let notice = standing_notice facts q in
    sym (left-parts contract notice ∙ available-is side facts q (Some contract) notice (left_of (Some contract) notice) refl (sym contract_is) refl)

-- ---- the sums

pub amounts-made : (side : Side) (q : Question) (rule : Rule) (line : Option NominationLine) (n : ℕ) (lines : List NominationLine) (code : List ℕ) (group : Group) (nominated left before up_to all : ℕ)
    → code ≡ counterparty side q → group ≡ group_for rule line
    → nominated ≡ sum_served_before rule line (q.hour - 1) (in_direction q.direction lines) → left ≡ n - nominated
    → before ≡ sum_before code (q.hour - 1) (filter (is_of_group group) (in_direction q.direction lines)) → up_to ≡ sum_up_to code (q.hour - 1) (filter (is_of_group group) (in_direction q.direction lines))
    → all ≡ total (q.hour - 1) (filter (is_of_group group) (in_direction q.direction lines))
    → record { available = n; nominated_before = nominated; left = left; before = before; up_to = up_to; all = all } ≡ amounts_of rule line n (counterparty side q) (q.hour - 1) (in_direction q.direction lines)
amounts-made side q rule line n lines code group nominated left before up_to all code_is group_is nominated_is left_is before_is up_to_is all_is =
    let own = in_direction q.direction lines in
    let kept : filter (is_of_group group) own ≡ sharing_with rule line own = ap (λ (g : Group). filter (is_of_group g) own) group_is ∙ group-shares rule line own in
    let left_there = left_is ∙ (λ t. n - nominated_is t) in
    let before_there = before_is ∙ (λ t. sum_before (code_is t) (q.hour - 1) (kept t)) in
    let up_to_there = up_to_is ∙ (λ t. sum_up_to (code_is t) (q.hour - 1) (kept t)) in
    let all_there = all_is ∙ ap (total (q.hour - 1)) kept in
    λ t. record { available = n; nominated_before = nominated_is t; left = left_there t; before = before_there t; up_to = up_to_there t; all = all_there t }

pub within-made : (a b m n : ℕ) → a ≡ m → b ≡ n → m ≤ n → a ≤ b
within-made a b m n a_is b_is within = omega (arith, a_is, b_is, within)

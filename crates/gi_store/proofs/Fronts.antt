-- How long the text of several facts is, and which front of them fits one row.
use Rattle.std.proofs.Common.{◌≡◌, ℕ, ◌+◌, ◌<◌, ◌≤◌, List, [], ◌∷◌, length, map, take, get_or, sum_by, IsTrue, true, refl, ap, arith, length-append}
use Rattle.std.proofs.lemmas.Bool.Decides.{nat_tests}
use Rattle.std.proofs.lemmas.List.{length-take-le, take-take}
use Rattle.std.proofs.lemmas.List.Sums.{sum_by-cons, sum_by-take-le, sum_by_more}
use Rattle.serde_json.specs.View.{items_of}
use Rattle.serde_json.specs.Written.{compact_text, items_text}
use Rattle.gi_facts.specs.Batch.{array_text, batch_text, most_facts}
use Rattle.gi_facts.specs.Writing.{data_of, fact_text}
use Rattle.gi_facts.specs.declared.fact.Fact.{Fact}
use Rattle.gi_store.specs.Batches.{IsLongestFront, is_batch, most_bytes}

-- the fact's text, and the comma or bracket before it
abbrev pub taken_by : Fact → ℕ
taken_by fact = length (fact_text fact) + 1

items_length : (fs : List Fact) → length (items_text true (items_of (map data_of fs))) ≡ sum_by taken_by fs + 1
unfolding fact_text
items_length [] = refl
items_length (f ∷ fs) = omega (arith, length-append (compact_text (data_of f)) (items_text true (items_of (map data_of fs))), items_length fs, sum_by-cons taken_by f fs)

text_length : (fs : List Fact) → 2 ≤ length fs → length (batch_text fs) ≡ sum_by taken_by fs + 1
unfolding array_text fact_text
text_length [] several = absurd (omega (arith, several))
text_length (f ∷ []) several = absurd (omega (arith, several))
text_length (f ∷ g ∷ fs) several =
    omega (arith, length-append (compact_text (data_of f)) (items_text true (items_of (map data_of (g ∷ fs)))), items_length (g ∷ fs), sum_by-cons taken_by f (g ∷ fs))

abbrev pub taken : List Fact → ℕ → ℕ
taken facts k = sum_by taken_by (take k facts)

front_length : (facts : List Fact) (k : ℕ) → 1 < k → k ≤ length facts → length (batch_text (take k facts)) ≡ taken facts k + 1
front_length facts k several there = text_length (take k facts) (omega (arith, length-take-le k facts there, several))

taken_more : (facts : List Fact) (m n : ℕ) → m ≤ n → taken facts m ≤ taken facts n
taken_more facts m n below = omega (arith, sum_by-take-le taken_by (take n facts) m, ap (sum_by taken_by) (take-take m n facts below))

pub stops_at : (facts : List Fact) (n k : ℕ) (d : Fact) → n < length facts → 1 ≤ k → n ≤ k → (1 < k → k ≤ n) → k ≤ length facts → taken facts n < most_bytes → most_bytes ≤ taken facts n + taken_by (get_or facts n d) → IsLongestFront facts k
stops_at facts n k d within some above few there fits over = record {
  some = some;
  there = there;
  within = λ several. omega (arith, front_length facts k several there, taken_more facts k n (few several), fits);
  longest = λ m beyond least. omega (arith, front_length facts m (omega (arith, some, beyond)) least, taken_more facts (n + 1) m (omega (arith, above, beyond)), sum_by_more taken_by facts n d within, over);
}

pub all_fit : (facts : List Fact) → 1 ≤ length facts → taken facts (length facts) < most_bytes → IsLongestFront facts (length facts)
all_fit facts some fits = record {
  some = some;
  there = omega arith;
  within = λ several. omega (arith, front_length facts (length facts) several (omega arith), fits);
  longest = λ m beyond least. absurd (omega (arith, beyond, least));
}

pub some_facts : (facts : List Fact) → IsTrue (is_batch facts) → 1 ≤ length facts
some_facts facts h = grind (arith, nat_tests, h)

pub few_facts : (facts : List Fact) → IsTrue (is_batch facts) → length facts ≤ most_facts
few_facts facts h = grind (arith, nat_tests, h)

-- What names a book's first facts.
use Rattle.std.proofs.Common.{◌≡◌, ◌∙◌, ◌++◌, ◌+◌, ◌<◌, ap, refl, subst, Bool, true, false, not, cond, ◌==◌, List, [], ◌∷◌, ℕ, Option, Some, None, decimal, get_or, length, take, drop, eqb-true, arith, if◌then◌else◌}
use Rattle.std.proofs.Math.Seq.{drop-append-add, take-append_seam}
use Rattle.std.specs.Char.{is_ascii_digit}
use Rattle.std.specs.List.{after_first, before_first, list_all, position_or_len}
use Rattle.std.proofs.lemmas.Bool.Decides.{nat_tests}
use Rattle.std.proofs.lemmas.List.{length-drop}
use Rattle.std.proofs.lemmas.List.Sums.{passes_at_first, split_at_first}
use Rattle.gi_command_line.specs.Expected.{expected_named, expected_of, is_digest, most_facts}
use Rattle.gi_command_line.specs.Laws.{ExpectedIsItsText, ExpectedIsNamed}
use Rattle.gi_command_line.specs.Numbers.{number_up_to}
use Rattle.gi_command_line.proofs.Numerals.{both_hold, digits_of, is_of_named, number_is_its_text, number_is_named}

abbrev is_colon : ℕ → Bool
is_colon byte = byte == 58

no_colon : (byte : ℕ) → is_ascii_digit byte ≡ true → is_colon byte ≡ false
no_colon byte is = grind (arith, nat_tests)

further : (digit : ℕ) (rest : List ℕ) (n : ℕ) → is_colon digit ≡ false → position_or_len is_colon rest ≡ n → position_or_len is_colon (digit ∷ rest) ≡ 1 + n
further digit rest n other at = ap (λ t. cond (not t) (1 + position_or_len is_colon rest) 0) other ∙ ap (λ m. 1 + m) at

-- behind digits alone the first colon is the one that follows them
colon_at : (digits rest : List ℕ) → list_all is_ascii_digit digits ≡ true → position_or_len is_colon (digits ++ (58 ∷ rest)) ≡ length digits
colon_at [] rest all = refl
colon_at (digit ∷ digits) rest all =
    let both = both_hold (is_ascii_digit digit) (list_all is_ascii_digit digits) all in
    let longer : 1 + length digits ≡ length (digit ∷ digits) = omega arith in
    further digit (digits ++ (58 ∷ rest)) (length digits) (no_colon digit both.0) (colon_at digits rest both.1) ∙ longer

front : (digits rest : List ℕ) → list_all is_ascii_digit digits ≡ true → before_first is_colon (digits ++ (58 ∷ rest)) ≡ digits
front digits rest all = ap (λ n. take n (digits ++ (58 ∷ rest))) (colon_at digits rest all) ∙ take-append_seam digits (58 ∷ rest)

back : (digits rest : List ℕ) → list_all is_ascii_digit digits ≡ true → after_first is_colon (digits ++ (58 ∷ rest)) ≡ rest
back digits rest all = ap (λ n. drop (n + 1) (digits ++ (58 ∷ rest))) (colon_at digits rest all) ∙ drop-append-add digits (58 ∷ rest) 1

abbrev if_digest : Bool → ℕ → List ℕ → Option (ℕ × List ℕ)
if_digest is facts digest = if is then Some (facts, digest) else None

pub expected_is_named : ExpectedIsNamed
unfolding expected_named
expected_is_named facts digest low is =
    let number = decimal facts in
    let named : number_up_to most_facts number ≡ Some facts = number_is_named most_facts facts low (omega arith) in
    let digits = digits_of number (is_of_named most_facts number facts named) in
    ap (λ text. expected_of (number_up_to most_facts text) (after_first is_colon (number ++ (58 ∷ digest)))) (front number digest digits)
    ∙ ap (λ text. expected_of (number_up_to most_facts number) text) (back number digest digits)
    ∙ ap (λ read. expected_of read digest) named ∙ ap (λ t. if_digest t facts digest) is

abbrev facts_in : Option (ℕ × List ℕ) → ℕ
facts_in None = 0
facts_in (Some read) = read.0

abbrev digest_in : Option (ℕ × List ℕ) → List ℕ
digest_in None = []
digest_in (Some read) = read.1

-- what is read of a number and a digest
read_of : (is : Bool) (read facts : ℕ) (back digest : List ℕ) → if_digest is read back ≡ Some (facts, digest) → (is ≡ true) × (read ≡ facts) × (back ≡ digest)
read_of true read facts back digest e = (refl, ap facts_in e, ap digest_in e)
read_of false read facts back digest e = cc

parts_of : (number : Option ℕ) (facts : ℕ) (back digest : List ℕ) → expected_of number back ≡ Some (facts, digest)
    → (number ≡ Some facts) × (is_digest back ≡ true) × (back ≡ digest)
parts_of None facts back digest e = cc
parts_of (Some read) facts back digest e = let (is, same, are) = read_of (is_digest back) read facts back digest e in (ap Some same, is, are)

-- what stands behind a colon that is not there is nothing
found : (word : List ℕ) → 0 < length (after_first is_colon word) → position_or_len is_colon word < length word
found word some = omega (arith, some, length-drop (position_or_len is_colon word + 1) word)

pub expected_is_its_text : ExpectedIsItsText
unfolding expected_named
expected_is_its_text word digest facts named =
    let (front_names, is, are) = parts_of (number_up_to most_facts (before_first is_colon word)) facts (after_first is_colon word) digest named in
    let (front_is, low) = number_is_its_text most_facts (before_first is_colon word) facts (omega arith) front_names in
    let long : length (after_first is_colon word) ≡ 64 = eqb-true _ _ (both_hold (length (after_first is_colon word) == 64) _ is).0 in
    let there = found word (omega arith) in
    let colon : get_or word (position_or_len is_colon word) 0 ≡ 58 = eqb-true _ _ (passes_at_first is_colon word 0 there) in
    let whole = split_at_first is_colon word 0 there in (
      whole ∙ ap (λ text. text ++ (get_or word (position_or_len is_colon word) 0 ∷ after_first is_colon word)) front_is
          ∙ ap (λ byte. decimal facts ++ (byte ∷ after_first is_colon word)) colon ∙ ap (λ text. decimal facts ++ (58 ∷ text)) are,
      low,
      subst (λ (text : List ℕ). is_digest text ≡ true) are is,
    )

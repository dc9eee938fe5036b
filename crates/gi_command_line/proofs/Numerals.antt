-- Decimal digits, as `parse` reads them.
use Rattle.std.proofs.Common.{◌≡◌, ◌∙◌, zero, suc, ◌<◌, ◌≤◌, ◌^◌, ap, sym, refl, subst, Bool, true, false, true≢false, not, ◌&&◌, ◌==◌, if◌then◌else◌, List, [], ◌∷◌, ℕ, Option, Some, None, Result, Err, OkIff, length, get_or, decimal, nat_le, rules, arith}
use Rattle.std.specs.Char.{is_ascii_digit}
use Rattle.std.specs.List.{list_all}
use Rattle.std.specs.Str.Parse.{ParsesUnsigned, digits_value}
use Rattle.std.proofs.lemmas.Bool.Decides.{nat_tests}
use Rattle.std.proofs.lemmas.Fmt.{decimal-digits_value, decimal_digit, decimal_nonempty, digits_decimal, digits_value-decimal, first_decimal}
use Rattle.std.proofs.lemmas.Str.Parse.{IsNumeralModel, numerals_by_value, parse_digits}
use Rattle.gi_command_line.specs.Numbers.{begins_right, is_number, number_up_to}

-- the words of these digits are those of `parse`
own : IsNumeralModel (λ ds. list_all is_ascii_digit ds ≡ true) (digits_value 10)
own = numerals_by_value _ (search rules)

pub both_hold : (a b : Bool) → (a && b) ≡ true → (a ≡ true) × (b ≡ true)
both_hold true b both = (refl, both)
both_hold false b both = absurd (true≢false (sym both))

pub digits_of : (word : List ℕ) → is_number word ≡ true → list_all is_ascii_digit word ≡ true
digits_of word is = (both_hold (begins_right word) _ is).1

some_digit : (word : List ℕ) → begins_right word ≡ true → 0 < length word
some_digit [] right = absurd (true≢false (sym right))
some_digit (first ∷ rest) right = omega arith

abbrev read_if : Bool → ℕ → Option ℕ
read_if is number = if is then Some number else None

-- where `parse` fails at a number, that is too great
pub too_great : {E : Type 0} (most : ℕ) (word : List ℕ) (r : Result ℕ E) (why : E) → most < 2 ^ 32 → ParsesUnsigned 32 10 word r → r ≡ Err why → is_number word ≡ true
    → number_up_to most word ≡ None
too_great most word r why small parses fails is =
    let value = digits_value 10 word in
    let none = subst (λ s. OkIff s ((0 < length word) × (value < 2 ^ 32)) value) fails (parse_digits own 32 word r parses (digits_of word is)) in
    let beyond : ¬ (value < 2 ^ 32) = λ below. none (some_digit word (both_hold (begins_right word) _ is).0, below) in
    let above : nat_le value most ≡ false = grind (arith, nat_tests) in
    ap (λ t. read_if (t && nat_le value most) value) is ∙ ap (λ t. read_if t value) above

-- what names a number is one
pub is_of_named : (most : ℕ) (word : List ℕ) (number : ℕ) → number_up_to most word ≡ Some number → is_number word ≡ true
is_of_named most word number named = of (is_number word) (nat_le (digits_value 10 word) most) named
  where
    of : (is small : Bool) → read_if (is && small) (digits_value 10 word) ≡ Some number → is ≡ true
    of true small e = refl
    of false small e = cc

-- ---- a number is named by its decimal text, and by no other

begins : (word : List ℕ) → 0 < length word → (1 < length word → 48 < get_or word 0 0) → begins_right word ≡ true
begins [] some big = absurd (omega arith)
begins (only ∷ []) some big = refl
begins (first ∷ second ∷ rest) some big =
    let above : 48 < first = big (omega arith) in
    let other : (first == 48) ≡ false = grind (arith, nat_tests) in
    ap not other

one_digit : (word : List ℕ) → begins_right word ≡ true → get_or word 0 0 ≡ 48 → length word ≡ 1
one_digit [] right zero_first = absurd (true≢false (sym right))
one_digit (only ∷ []) right zero_first = refl
one_digit (first ∷ second ∷ rest) right zero_first =
    let is : (first == 48) ≡ true = grind (arith, nat_tests) in
    absurd (true≢false (sym right ∙ ap not is))

begins_decimal : (n : ℕ) → n < 2 ^ 64 → begins_right (decimal n) ≡ true
begins_decimal zero small = begins (decimal 0) (decimal_nonempty 0 small) (λ long. absurd (omega (arith, ap length (decimal_digit 0 (omega arith)), long)))
begins_decimal (suc n) small = begins (decimal (suc n)) (decimal_nonempty (suc n) small) (λ long. first_decimal (suc n) (omega arith) small)

both_true : (a b : Bool) → a ≡ true → b ≡ true → (a && b) ≡ true
both_true a b first second = ap (λ t. t && b) first ∙ second

pub number_is_named : (most n : ℕ) → n ≤ most → most < 2 ^ 64 → number_up_to most (decimal n) ≡ Some n
number_is_named most n low small =
    let below : n < 2 ^ 64 = omega arith in
    let word = decimal n in
    let is : is_number word ≡ true = both_true (begins_right word) (list_all is_ascii_digit word) (begins_decimal n below) (digits_decimal own n below) in
    let within : nat_le n most ≡ true = grind (arith, nat_tests) in
    ap (λ t. read_if (t && nat_le (digits_value 10 word) most) (digits_value 10 word)) is
    ∙ ap (λ m. read_if (nat_le m most) m) (digits_value-decimal own n below) ∙ ap (λ t. read_if t n) within

read_so : (is small : Bool) (value number : ℕ) → read_if (is && small) value ≡ Some number → (small ≡ true) × (value ≡ number)
read_so true true value number e = (refl, cc)
read_so true false value number e = cc
read_so false small value number e = cc

pub number_is_its_text : (most : ℕ) (word : List ℕ) (n : ℕ) → most < 2 ^ 64 → number_up_to most word ≡ Some n → (word ≡ decimal n) × (n ≤ most)
number_is_its_text most word n small named =
    let is = is_of_named most word n named in
    let both = both_hold (begins_right word) (list_all is_ascii_digit word) is in
    let (within, value) = read_so (is_number word) (nat_le (digits_value 10 word) most) (digits_value 10 word) n named in
    let low : digits_value 10 word ≤ most = grind (arith, nat_tests) in
    let text = decimal-digits_value own word both.1 (some_digit word both.0) (one_digit word both.0) (omega arith) in
    (sym text ∙ ap decimal value, omega arith)

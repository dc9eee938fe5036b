-- How long the compact text of a value is at most.
use Rattle.std.proofs.Common.{◌≡◌, ℕ, ◌+◌, ◌*◌, ◌/◌, ◌%◌, ◌≤◌, Bool, true, false, cond, nat_lt, List, [], ◌∷◌, ◌++◌, length, map, All, ap, arith, length-append}
use Rattle.std.specs.Char.{digit_char}
use Rattle.std.specs.List.{AllByRecursion}
use Rattle.std.proofs.lemmas.List.Elements.{recursion_from_All}
use Rattle.json.specs.Print.{escape_letter, escape_byte, escape, quoted}
use Rattle.serde_json.specs.Data.{Data, array, object, Members, no_members, member}
use Rattle.serde_json.specs.View.{items_of}
use Rattle.serde_json.specs.Written.{comma_if, compact_text, items_text, members_text}

either_le : (b : Bool) (xs ys : List ℕ) (most : ℕ) → length xs ≤ most → length ys ≤ most → length (cond b xs ys) ≤ most
either_le true xs ys most h k = h
either_le false xs ys most h k = k

-- what stands for a byte of a text
escape_byte_le : (x : ℕ) → length (escape_byte x) ≤ 6
unfolding escape_byte
escape_byte_le x =
    let code = 92 ∷ 117 ∷ 48 ∷ 48 ∷ digit_char (x / 16) ∷ digit_char (x % 16) ∷ [] in
    let low = either_le (nat_lt x 32) code (x ∷ []) 6 (omega arith) (omega arith) in
    either_le (nat_lt 0 (escape_letter x)) (92 ∷ escape_letter x ∷ []) (cond (nat_lt x 32) code (x ∷ [])) 6 (omega arith) low

-- each byte of a text is written as at most six
escape_le : (s : List ℕ) → length (escape s) ≤ 6 * length s
escape_le [] = omega arith
escape_le (x ∷ xs) = omega (arith, length-append (escape_byte x) (escape xs), escape_byte_le x, escape_le xs)

pub quoted_le : (most : ℕ) (s : List ℕ) → length s ≤ most → length (quoted s) ≤ 6 * most + 2
quoted_le most s short = omega (arith, length-append (escape s) (34 ∷ []), escape_le s)

-- a text of which nothing is escaped
pub record IsBare (s : List ℕ) : Type 0 where
  pub same : escape s ≡ s

-- such a text is written as its bytes between two quotation marks
pub length-bare : (s : List ℕ) → IsBare s → length (quoted s) ≡ length s + 2
length-bare s bare = omega (arith, length-append (escape s) (34 ∷ []), ap length bare.same)

comma_le : (later : Bool) (xs : List ℕ) → length (comma_if later ++ xs) ≤ length xs + 1
comma_le true xs = omega arith
comma_le false xs = omega arith

-- the text of a value is at most so long
pub record IsWithin (most : ℕ) (d : Data) : Type 0 where
  pub within : length (compact_text d) ≤ most

-- the text of members that follow another one, each after its comma, is at most so long
pub record AreWithin (most : ℕ) (ms : Members) : Type 0 where
  pub within : length (members_text true ms) ≤ most

-- elements that are not long, with the closing bracket
items_le : {X : Type 0} (f : X → Data) (most : ℕ) (later : Bool) (xs : List X) → AllByRecursion (λ x. IsWithin most (f x)) xs → length (items_text later (items_of (map f xs))) ≤ length xs * (most + 1) + 1
items_le f most later [] h = omega arith
items_le f most later (x ∷ xs) h =
    let here = compact_text (f x) in
    let rest = items_text true (items_of (map f xs)) in
    omega (arith, comma_le later (here ++ rest), length-append here rest, h.0.within, items_le f most true xs h.1)

pub array_within : {X : Type 0} (f : X → Data) (most : ℕ) (xs : List X) → All (λ x. IsWithin most (f x)) xs → IsWithin (length xs * (most + 1) + 2) (array (items_of (map f xs)))
array_within f most xs h = record { within = omega (arith, items_le f most false xs (recursion_from_All (λ x. IsWithin most (f x)) xs h)) }

pub none_within : AreWithin 1 no_members
none_within = record { within = omega arith }

-- a member has its key, a comma, two quotation marks and a colon beside its value
pub member_within : (k : List ℕ) (d : Data) (ms : Members) (value rest : ℕ) → IsBare k → IsWithin value d → AreWithin rest ms → AreWithin (length k + value + rest + 4) (member k d ms)
member_within k d ms value rest bare here there =
    let text = compact_text d ++ members_text true ms in
    record { within = omega (arith, length-append (quoted k) (58 ∷ text), length-append (compact_text d) (members_text true ms), length-bare k bare, here.within, there.within) }

without_comma : (ms : Members) → length (members_text false ms) ≤ length (members_text true ms)
without_comma no_members = omega arith
without_comma (member k d ms) = omega arith

pub object_within : (ms : Members) (most : ℕ) → AreWithin most ms → IsWithin (most + 1) (object ms)
object_within ms most h = record { within = omega (arith, without_comma ms, h.within) }

pub members_wider : (ms : Members) (low high : ℕ) → AreWithin low ms → low ≤ high → AreWithin high ms
members_wider ms low high h le = record { within = omega (arith, h.within, le) }

pub wider : (d : Data) (low high : ℕ) → IsWithin low d → low ≤ high → IsWithin high d
wider d low high h le = record { within = omega (arith, h.within, le) }

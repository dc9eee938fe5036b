-- The text of a head has its parts at their places, and its digits tell its number.
use Rattle.std.proofs.Common.{◌≡◌, ℕ, zero, suc, ◌+◌, ◌*◌, ◌-◌, ◌/◌, ◌%◌, ◌<◌, ◌≤◌, ◌^◌, List, [], ◌∷◌, ◌++◌, length, take, drop, codes, replicate, refl, sym, ap, ◌∙◌, arith, rules, Option, None, Some, if◌then◌else◌, nat_lt, lt-ltb, IsSome, inl, inr, Bool, true, false, Result, Ok, Err, lit<, drop-drop, get_or, append_assoc, length-append, slice_set}
use Rattle.std.proofs.Math.Nat.{pow-le-pow_right, pow-suc}
use Rattle.std.proofs.lemmas.Bool.{cases_Bool}
use Rattle.std.proofs.lemmas.Nat.{div_below}
use Rattle.std.proofs.lemmas.List.{drop-set, drop_at, length-drop, set_at, take-append-drop, take_all, take_at, take_more}
use Rattle.std.proofs.lemmas.List.Sums.{fold-append}
use Rattle.std.specs.Str.{IsAscii}
use Rattle.std.proofs.lemmas.Str.Ascii.{IsAscii-cons, IsAscii-nil}
use Rattle.hex.specs.Hex.{IsBytes, decode_sized, encode_lower, lower_digits}
use Rattle.hex.specs.declared.error.FromHexError.{FromHexError}
use Rattle.hex.proofs.HexLemmas.{IsAscii-encode_with, length-encode_with, decode_sized-encode_lower}
use Rattle.gi_store.specs.declared.digest.Digest.{Digest}
use Rattle.sqlite.specs.State.{State}
use Rattle.gi_facts.specs.declared.fact.Fact.{Fact}
use Rattle.gi_store.specs.Book.{IsPut, IsToldOf, KeepsOrPuts, counted}
use Rattle.gi_store.specs.Keeping.{Keeps}
use Rattle.gi_store.specs.declared.head.Head.{Head}
use Rattle.gi_store.specs.Digests.{chain_from, chain_of, first_link, next_link}
use Rattle.gi_store.specs.Heads.{IsHead, Tells, digits, gone_on, head_of, head_text, number_in, told_after}

pub length-digits : (places number : ℕ) → length (digits places number) ≡ places
unfolding digits
length-digits zero number = refl
length-digits (suc places) number = let more = length-digits places (number / 10) in simp length-append (omega (arith, more))

-- one more of the digits is told
pub digits_more : (places number : ℕ) → 0 < places → digits places number ≡ digits (places - 1) (number / 10) ++ (48 + number % 10) ∷ []
unfolding digits
digits_more zero number some = absurd (omega arith)
digits_more (suc places) number some =
    let before : places ≡ suc places - 1 = omega arith in
    ap (λ k. digits k (number / 10) ++ (48 + number % 10) ∷ []) before

pub number_in_digits : (places number : ℕ) → number < 10 ^ places → number_in (digits places number) ≡ number
unfolding digits
number_in_digits zero number small = omega arith
number_in_digits (suc places) number small =
    let below : number < 10 ^ places * 10 = rw (← pow-suc 10 places) small in
    let rest = number_in_digits places (number / 10) (div_below number 10 (10 ^ places) (omega arith) below) in
    fold-append (λ total digit. total * 10 + (digit - 48)) 0 (digits places (number / 10)) ((48 + number % 10) ∷ []) ∙ (rw rest (omega arith))

-- one more digit is written before those that are
pub one_more : (all ds : List ℕ) (place left : ℕ) → 0 < place → place ≤ length ds → all ≡ digits place left ++ drop place ds
    → all ≡ digits (place - 1) (left / 10) ++ drop (place - 1) (slice_set ds (place - 1) (48 + left % 10))
one_more all ds place left some within is =
    let at : place - 1 + 1 ≡ place = omega arith in
    let below : place - 1 < length ds = omega arith in
    let later = drop-set ds (place - 1) (48 + left % 10) below in
    let more = digits_more place left some in
    is ∙ (ap (λ front. front ++ drop place ds) more ∙ append_assoc (digits (place - 1) (left / 10)) ((48 + left % 10) ∷ []) (drop place ds)
    ∙ ap (λ rest. digits (place - 1) (left / 10) ++ rest) (sym (later ∙ ap (λ k. (48 + left % 10) ∷ drop k ds) at)))

-- all of them are written
pub none_left : (all ds : List ℕ) (place left : ℕ) → place ≤ 0 → all ≡ digits place left ++ drop place ds → ds ≡ all
unfolding digits
none_left all ds zero left low is = sym is
none_left all ds (suc place) left low is = absurd (omega arith)

later : (front rest : List ℕ) (n more : ℕ) → length front ≡ n → drop (n + more) (front ++ rest) ≡ drop more rest
later front rest n more long = sym (drop-drop more n (front ++ rest)) ∙ ap (drop more) (drop_at front rest n long)

-- the parts of a line of 76 bytes, written over spaces
pub line_written : (number digest first second : List ℕ) → length number ≡ 10 → length digest ≡ 64
    → first ≡ take 0 (replicate 76 32) ++ number ++ drop (0 + length number) (replicate 76 32)
    → second ≡ take 11 first ++ digest ++ drop (11 + length digest) first
    → slice_set second 75 10 ≡ number ++ codes " " ++ digest ++ codes "\n"
line_written number digest first second ten sixty is next =
    let front : List ℕ = number ++ 32 ∷ [] in
    let eleven : length front ≡ 11 = length-append number (32 ∷ []) ∙ omega (arith, ten) in
    let spaces : drop (0 + length number) (replicate 76 32) ≡ replicate 66 32 = rw ten refl in
    let opened : first ≡ front ++ replicate 65 32 = is ∙ (ap (λ rest. number ++ rest) spaces ∙ sym (append_assoc number (32 ∷ []) (replicate 65 32))) in
    let before : take 11 first ≡ front = ap (take 11) opened ∙ take_at front (replicate 65 32) 11 eleven in
    let after : drop (11 + length digest) first ≡ 32 ∷ [] =
    ap (λ n. drop (11 + n) first) sixty ∙ (ap (drop 75) opened ∙ later front (replicate 65 32) 11 64 eleven) in
    let whole : second ≡ (front ++ digest) ++ 32 ∷ [] = next ∙ (ap (λ a. a ++ digest ++ drop (11 + length digest) first) before ∙ ap (λ b. front ++ digest ++ b) after) in
    let long : length (front ++ digest) ≡ 75 = length-append front digest ∙ omega (arith, eleven, sixty) in
    ap (λ xs. slice_set xs 75 10) whole ∙ set_at (front ++ digest) 32 [] 10 75 long

-- the digits of a digest are read back
pub read_back : (text read bytes : List ℕ) → length bytes ≡ 32 → IsBytes bytes → text ≡ encode_lower bytes → Ok read ≡ decode_sized text 32 → read ≡ bytes
read_back text read bytes long are is told =
    let back : ◌≡◌ {A = Result (List ℕ) FromHexError} (Ok read) (Ok bytes) = told ∙ (ap (λ t. decode_sized t 32) is ∙ decode_sized-encode_lower bytes 32 long are) in
    cc

pub not_refused : (text bytes : List ℕ) (refused : FromHexError) → length bytes ≡ 32 → IsBytes bytes → text ≡ encode_lower bytes → Err refused ≡ decode_sized text 32 → ⊥
not_refused text bytes refused long are is told =
    let back : ◌≡◌ {A = Result (List ℕ) FromHexError} (Err refused) (Ok bytes) = told ∙ (ap (λ t. decode_sized t 32) is ∙ decode_sized-encode_lower bytes 32 long are) in
    cc

pub pow_low : (i : ℕ) → i < 10 → 10 ^ i ≤ 1000000000
pow_low i below = let nine : i ≤ 9 = omega arith in pow-le-pow_right {n = 10} (omega arith) nine

pub digest_is_ascii : (bytes : List ℕ) → IsAscii (encode_lower bytes)
digest_is_ascii bytes = IsAscii-encode_with lower_digits bytes (IsAscii-cons 48 (49 ∷ 50 ∷ 51 ∷ 52 ∷ 53 ∷ 54 ∷ 55 ∷ 56 ∷ 57 ∷ 97 ∷ 98 ∷ 99 ∷ 100 ∷ 101 ∷ 102 ∷ []) (lit< tt) (IsAscii-cons 49 (50 ∷ 51 ∷ 52 ∷ 53 ∷ 54 ∷ 55 ∷ 56 ∷ 57 ∷ 97 ∷ 98 ∷ 99 ∷ 100 ∷ 101 ∷ 102 ∷ []) (lit< tt) (IsAscii-cons 50 (51 ∷ 52 ∷ 53 ∷ 54 ∷ 55 ∷ 56 ∷ 57 ∷ 97 ∷ 98 ∷ 99 ∷ 100 ∷ 101 ∷ 102 ∷ []) (lit< tt) (IsAscii-cons 51 (52 ∷ 53 ∷ 54 ∷ 55 ∷ 56 ∷ 57 ∷ 97 ∷ 98 ∷ 99 ∷ 100 ∷ 101 ∷ 102 ∷ []) (lit< tt) (IsAscii-cons 52 (53 ∷ 54 ∷ 55 ∷ 56 ∷ 57 ∷ 97 ∷ 98 ∷ 99 ∷ 100 ∷ 101 ∷ 102 ∷ []) (lit< tt) (IsAscii-cons 53 (54 ∷ 55 ∷ 56 ∷ 57 ∷ 97 ∷ 98 ∷ 99 ∷ 100 ∷ 101 ∷ 102 ∷ []) (lit< tt) (IsAscii-cons 54 (55 ∷ 56 ∷ 57 ∷ 97 ∷ 98 ∷ 99 ∷ 100 ∷ 101 ∷ 102 ∷ []) (lit< tt) (IsAscii-cons 55 (56 ∷ 57 ∷ 97 ∷ 98 ∷ 99 ∷ 100 ∷ 101 ∷ 102 ∷ []) (lit< tt) (IsAscii-cons 56 (57 ∷ 97 ∷ 98 ∷ 99 ∷ 100 ∷ 101 ∷ 102 ∷ []) (lit< tt) (IsAscii-cons 57 (97 ∷ 98 ∷ 99 ∷ 100 ∷ 101 ∷ 102 ∷ []) (lit< tt) (IsAscii-cons 97 (98 ∷ 99 ∷ 100 ∷ 101 ∷ 102 ∷ []) (lit< tt) (IsAscii-cons 98 (99 ∷ 100 ∷ 101 ∷ 102 ∷ []) (lit< tt) (IsAscii-cons 99 (100 ∷ 101 ∷ 102 ∷ []) (lit< tt) (IsAscii-cons 100 (101 ∷ 102 ∷ []) (lit< tt) (IsAscii-cons 101 (102 ∷ []) (lit< tt) (IsAscii-cons 102 [] (lit< tt) IsAscii-nil))))))))))))))))

-- one more byte is told
pub number_more : (ds : List ℕ) (i : ℕ) → i < length ds → number_in (take (i + 1) ds) ≡ number_in (take i ds) * 10 + (get_or ds i 0 - 48)
number_more ds i below =
    let more : take (i + 1) ds ≡ take i ds ++ get_or ds i 0 ∷ [] = take_more ds i 0 below in
    ap number_in more ∙ fold-append (λ number digit. number * 10 + (digit - 48)) 0 (take i ds) (get_or ds i 0 ∷ [])

-- the parts of a head's text

pub number_part : (number digest : List ℕ) → length number ≡ 10 → take 10 (number ++ codes " " ++ digest ++ codes "\n") ≡ number
number_part number digest ten =
    ap (take 10) (append_assoc (number ++ 32 ∷ []) digest (10 ∷ []) ∙ append_assoc number (32 ∷ []) (digest ++ 10 ∷ [])) ∙ take_at number (32 ∷ (digest ++ 10 ∷ [])) 10 ten

pub digest_part : (number digest : List ℕ) → length number ≡ 10 → length digest ≡ 64 → take 64 (drop 11 (number ++ codes " " ++ digest ++ codes "\n")) ≡ digest
digest_part number digest ten sixty =
    let front : List ℕ = number ++ 32 ∷ [] in
    let eleven : length front ≡ 11 = length-append number (32 ∷ []) ∙ omega (arith, ten) in
    ap (λ xs. take 64 (drop 11 xs)) (append_assoc front digest (10 ∷ [])) ∙ (ap (take 64) (drop_at front (digest ++ 10 ∷ []) 11 eleven) ∙ take_at digest (10 ∷ []) 64 sixty)

pub length-text : (head : Head) → IsHead head → length (head_text head) ≡ 76
length-text head is =
    let ten = length-digits 10 head.facts in
    let sixty = length-encode_with lower_digits head.digest.bytes in
    let long = is.length in
    length-append (digits 10 head.facts ++ codes " " ++ encode_lower head.digest.bytes) (10 ∷ [])
    ∙ (ap (λ n. n + 1) (length-append (digits 10 head.facts ++ codes " ") (encode_lower head.digest.bytes) ∙ ap (λ n. n + length (encode_lower head.digest.bytes)) (length-append (digits 10 head.facts) (32 ∷ []))) ∙ omega (arith, ten, sixty, long))

pub number_of_text : (head : Head) (text : List ℕ) → IsHead head → text ≡ head_text head → take 10 text ≡ digits 10 head.facts
number_of_text head text is told = ap (take 10) told ∙ number_part (digits 10 head.facts) (encode_lower head.digest.bytes) (length-digits 10 head.facts)

pub digest_of_text : (head : Head) (text : List ℕ) → IsHead head → text ≡ head_text head → take 64 (drop 11 text) ≡ encode_lower head.digest.bytes
digest_of_text head text is told =
    let sixty = length-encode_with lower_digits head.digest.bytes in
    let long = is.length in
    ap (λ xs. take 64 (drop 11 xs)) told ∙ digest_part (digits 10 head.facts) (encode_lower head.digest.bytes) (length-digits 10 head.facts) (omega (arith, sixty, long))

-- ten digits tell their number
pub number_is : (text : List ℕ) (number : ℕ) → number < 2 ^ 32 → text ≡ digits 10 number → number_in text ≡ number
number_is text number small is = ap number_in is ∙ number_in_digits 10 number (omega arith)

pub same_some : {X : Type 0} {a b : X} → Some a ≡ Some b → a ≡ b
same_some e = cc

pub not_none : {X : Type 0} {r : Option X} {a : X} → r ≡ None → r ≡ Some a → ⊥
not_none {X} {r} {a} none some = let e : ◌≡◌ {A = Option X} None (Some a) = sym none ∙ some in cc

pub number_back : (text : List ℕ) (number : ℕ) (read : Option ℕ) → number < 2 ^ 32 → text ≡ digits 10 number
    → read ≡ (if nat_lt (number_in text) 4294967296 then Some (number_in text) else None) → read ≡ Some number
number_back text number read small is told =
    let value : number_in text ≡ number = number_is text number small is in
    let below : nat_lt number 4294967296 ≡ true = lt-ltb number 4294967296 (omega arith) in
    told ∙ (rw value (rw below refl))

pub both_parts : (facts : ℕ) (digest : Digest) (head : Head) → facts ≡ head.facts → digest ≡ head.digest → Some (record { facts = facts; digest = digest }) ≡ Some head
both_parts facts digest head f d =
    let with_facts : ℕ → Option Head = λ n. Some (record { facts = n; digest = digest }) in
    let with_digest : Digest → Option Head = λ e. Some (record { facts = head.facts; digest = e }) in
    ap with_facts f ∙ ap with_digest d

pub not_so : (b : Bool) → b ≡ false → b ≡ true → ⊥
not_so b is_false is_true = let e : false ≡ true = sym is_false ∙ is_true in cc

-- ---- a head that is kept

pub kept_if_next : (kept next : Option Head) (facts : List Fact) → next ≡ told_after kept facts → IsSome next → IsSome kept
kept_if_next None next facts is some = rw is at some
kept_if_next (Some head) next facts is some = refl

pub keeps_or_puts : (head : Option Head) (n : ℕ) (text : List ℕ) (old new : State) → Keeps old new → KeepsOrPuts head n text old new
keeps_or_puts None n text old new keeps = keeps
keeps_or_puts (Some head) n text old new keeps = inl keeps

pub puts_at_least : (head : Option Head) (n : ℕ) (text : List ℕ) (old new : State) → IsSome head → IsPut n text old new → KeepsOrPuts head n text old new
puts_at_least None n text old new some puts = absurd (search rules)
puts_at_least (Some head) n text old new some puts = inr puts

-- a kept head tells as many facts as are known after a save
pub told_of : (head : Option Head) (known : ℕ) (facts : List Fact) → IsToldOf (Some known) head → IsToldOf (counted (known + length facts)) (told_after head facts)
told_of None known facts told = tt
told_of (Some head) known facts told =
    let same : known ≡ head.facts = same_some told in
    elim (cases_Bool (nat_lt (head.facts + length facts) 4294967295)) [
      | inl few ↦ rw same (rw few refl)
      | inr many ↦ rw same (rw many tt)
    ]

-- the head of the facts that one tells, gone on by the rest, is that of all
gone_on_is : (head : Head) (facts : List Fact) → Tells head facts → gone_on head (drop head.facts facts) ≡ head_of facts
gone_on_is head facts tells =
    let k : ℕ = head.facts in
    let split : take k facts ++ drop k facts ≡ facts = take-append-drop k facts in
    let chain : chain_from (chain_of (take k facts)) (drop k facts) ≡ chain_of facts = sym (fold-append next_link first_link (take k facts) (drop k facts)) ∙ ap chain_of split in
    let digest : chain_from head.digest (drop k facts) ≡ chain_of facts = ap (λ link. chain_from link (drop k facts)) (sym tells.chain) ∙ chain in
    let number : head.facts + length (drop k facts) ≡ length facts = simp length-drop (omega (arith, tells.within)) in
    same_some (both_parts (head.facts + length (drop k facts)) (chain_from head.digest (drop k facts)) (head_of facts) number digest)

-- (the rest as a range of a slice has it)
pub gone_on_rest : (head : Head) (facts : List Fact) → Tells head facts → gone_on head (take (length facts - head.facts) (drop head.facts facts)) ≡ head_of facts
gone_on_rest head facts tells =
    let rest : take (length facts - head.facts) (drop head.facts facts) ≡ drop head.facts facts = take_all (length facts - head.facts) (drop head.facts facts) (simp length-drop (omega arith)) in
    ap (gone_on head) rest ∙ gone_on_is head facts tells

-- How refusals are counted, byte by byte.
use Rattle.std.proofs.Common.{◌≡◌, ◌∙◌, ℕ, ◌+◌, ◌-◌, ◌<◌, ◌≤◌, ◌^◌, min, Bool, true, false, ◌==◌, ◌&&◌, List, [], ◌∷◌, ◌++◌, filter, length, take, Option, None, Some, IfSome, refl, sym, ap, subst, arith, eqb-true, length-take, length-append, append_assoc, append-nil, if◌then◌else◌}
use Rattle.std.specs.Prelude.{nat_lt}
use Rattle.std.specs.List.{fold, onto_first}
use Rattle.std.specs.Str.{bytes_eq}
use Rattle.std.specs.Io.KnownBytes.{Appends}
use Rattle.std.proofs.lemmas.Bool.Decides.{nat_tests}
use Rattle.std.proofs.lemmas.Grind.{fold-append}
use Rattle.std.proofs.lemmas.List.{take_all, take-append-le}
use Rattle.std.proofs.lemmas.Slice.Eq.{bytes_eq-Decides}
use Rattle.gi_text.specs.Lines.{lines}
use Rattle.gi_refusals.specs.Refusals.{Tally, counted, grown, is_tally, most_front, next, no_line, refusals_of, refused_in, refused_told, tally_of, tells_refusal, total}

-- the greatest number
abbrev most : ℕ
most = 2 ^ 64 - 1

abbrev ends_line : ℕ → Bool
ends_line byte = byte == 10

-- ---- lines

lines_none : lines [] ≡ []
unfolding lines
lines_none = refl

lines_feed : (byte : ℕ) (bytes : List ℕ) → ends_line byte ≡ true → lines (byte ∷ bytes) ≡ [] ∷ lines bytes
unfolding lines
lines_feed byte bytes ended = rw ended refl

lines_other : (byte : ℕ) (bytes : List ℕ) → ends_line byte ≡ false → lines (byte ∷ bytes) ≡ onto_first byte (lines bytes)
unfolding lines
lines_other byte bytes other = rw other refl

-- no line feed is among these bytes
abbrev IsUnended : List ℕ → Type 0
IsUnended [] = Unit {0}
IsUnended (byte ∷ bytes) = (ends_line byte ≡ false) × IsUnended bytes

unended_more : (line : List ℕ) (byte : ℕ) → IsUnended line → ends_line byte ≡ false → IsUnended (line ++ byte ∷ [])
unended_more [] byte un other = (other, tt)
unended_more (first ∷ line) byte un other = (un.0, unended_more line byte un.1 other)

-- what a line feed ends is a line
lines_ended : (line : List ℕ) (byte : ℕ) (rest : List ℕ) → IsUnended line → ends_line byte ≡ true → lines (line ++ byte ∷ rest) ≡ line ∷ lines rest
lines_ended [] byte rest un ended = lines_feed byte rest ended
lines_ended (first ∷ line) byte rest un ended =
    lines_other first (line ++ byte ∷ rest) un.0 ∙ ap (onto_first first) (lines_ended line byte rest un.1 ended)

lines_alone : (first : ℕ) (line : List ℕ) → IsUnended (first ∷ line) → lines (first ∷ line) ≡ (first ∷ line) ∷ []
lines_alone first [] un = lines_other first [] un.0 ∙ ap (onto_first first) lines_none
lines_alone first (second ∷ line) un = lines_other first (second ∷ line) un.0 ∙ ap (onto_first first) (lines_alone second line un.1)

-- ---- fronts

abbrev front_of : List ℕ → List ℕ
front_of line = take most_front line

-- the front of a line grows by a byte, or is long enough
grown_within : (n : ℕ) (line : List ℕ) (byte : ℕ) (short : Bool) → nat_lt (length (take n line)) n ≡ short
    → (if short then take n line ++ byte ∷ [] else take n line) ≡ take n (line ++ byte ∷ [])
grown_within n line byte true is =
    let some : length (take n line) < n = grind (arith, nat_tests) in
    let few : length line < n = omega (arith, length-take n line, some) in
    let one : length (line ++ byte ∷ []) ≡ length line + 1 = length-append line (byte ∷ []) in
    ap (λ l. l ++ byte ∷ []) (take_all n line (omega (arith, few))) ∙ sym (take_all n (line ++ byte ∷ []) (omega (arith, few, one)))
grown_within n line byte false is =
    let many : n ≤ length (take n line) = grind (arith, nat_tests) in
    sym (take-append-le n line (byte ∷ []) (omega (arith, length-take n line, many)))

grown_front : (line : List ℕ) (byte : ℕ) → grown (front_of line) byte ≡ front_of (line ++ byte ∷ [])
grown_front line byte = grown_within 32 line byte (nat_lt (length (take 32 line)) 32) refl

-- ---- what is counted of a text that goes on behind a front

abbrev refused_from : List ℕ → List ℕ → ℕ
refused_from front [] = refusals_of front
refused_from front (byte ∷ rest) = if byte == 10 then refusals_of front + refused_from [] rest else refused_from (grown front byte) rest

from_feed : (front : List ℕ) (byte : ℕ) (rest : List ℕ) → ends_line byte ≡ true → refused_from front (byte ∷ rest) ≡ refusals_of front + refused_from [] rest
from_feed front byte rest ended = rw ended refl

from_other : (front : List ℕ) (byte : ℕ) (rest : List ℕ) → ends_line byte ≡ false → refused_from front (byte ∷ rest) ≡ refused_from (grown front byte) rest
from_other front byte rest other = rw other refl

abbrev tally_so : List ℕ → ℕ → Tally
tally_so front count = record { front = front; count = count }

next_feed : (tally : Tally) (byte : ℕ) → ends_line byte ≡ true → next tally byte ≡ tally_so [] (total tally)
next_feed tally byte ended = rw ended refl

next_other : (tally : Tally) (byte : ℕ) → ends_line byte ≡ false → next tally byte ≡ tally_so (grown tally.front byte) tally.count
next_other tally byte other = rw other refl

-- a sum that stops at the greatest number may stop before
stops : (a b c : ℕ) → min (min (a + b) most + c) most ≡ min (a + (b + c)) most
stops a b c = omega arith

abbrev Counts : List ℕ → Tally → Type 0
Counts text tally = total (fold next tally text) ≡ min (tally.count + refused_from tally.front text) most

counts_more : (byte : ℕ) (rest : List ℕ) (tally : Tally) (ended : Bool) → ends_line byte ≡ ended → ((t : Tally) → Counts rest t) → Counts (byte ∷ rest) tally
counts_more byte rest tally true ended counted_so =
    ap (λ t. total (fold next t rest)) (next_feed tally byte ended)
    ∙ counted_so (tally_so [] (total tally))
    ∙ stops tally.count (refusals_of tally.front) (refused_from [] rest)
    ∙ ap (λ n. min (tally.count + n) most) (sym (from_feed tally.front byte rest ended))
counts_more byte rest tally false other counted_so =
    ap (λ t. total (fold next t rest)) (next_other tally byte other)
    ∙ counted_so (tally_so (grown tally.front byte) tally.count)
    ∙ ap (λ n. min (tally.count + n) most) (sym (from_other tally.front byte rest other))

counts : (text : List ℕ) (tally : Tally) → Counts text tally
counts [] tally = refl
counts (byte ∷ rest) tally = counts_more byte rest tally (ends_line byte) refl (λ t. counts rest t)

-- ---- these are the lines that tell a refusal

abbrev is_refusal : List ℕ → Bool
is_refusal line = tells_refusal (front_of line)

abbrev refusals : List (List ℕ) → ℕ
refusals ls = length (filter is_refusal ls)

one_more : (line : List ℕ) (ls : List (List ℕ)) → refusals (line ∷ ls) ≡ refusals_of (front_of line) + refusals ls
one_more line ls = by (is_refusal line) refl
  where
    by : (is : Bool) → is_refusal line ≡ is → refusals (line ∷ ls) ≡ refusals_of (front_of line) + refusals ls
    by true is = rw is (omega arith)
    by false is = rw is (omega arith)

abbrev FromFront : List ℕ → List ℕ → Type 0
FromFront text line = refused_from (front_of line) text ≡ refusals (lines (line ++ text))

from_more : (byte : ℕ) (rest line : List ℕ) (ended : Bool) → ends_line byte ≡ ended → IsUnended line → ((l : List ℕ) → IsUnended l → FromFront rest l)
    → FromFront (byte ∷ rest) line
from_more byte rest line true ended un from =
    from_feed (front_of line) byte rest ended ∙ ap (λ n. refusals_of (front_of line) + n) (from [] tt)
    ∙ sym (ap refusals (lines_ended line byte rest un ended) ∙ one_more line (lines rest))
from_more byte rest line false other un from =
    from_other (front_of line) byte rest other ∙ ap (λ front. refused_from front rest) (grown_front line byte)
    ∙ from (line ++ byte ∷ []) (unended_more line byte un other) ∙ ap (λ all. refusals (lines all)) (append_assoc line (byte ∷ []) rest)

from_front : (text line : List ℕ) → IsUnended line → FromFront text line
from_front [] [] un = rw lines_none refl
from_front [] (first ∷ line) un =
    let alone = ap lines (append-nil (first ∷ line)) ∙ lines_alone first line un in
    let none : refusals_of (front_of (first ∷ line)) ≡ refusals_of (front_of (first ∷ line)) + 0 = omega arith in
    none ∙ sym (ap refusals alone ∙ one_more (first ∷ line) [])
from_front (byte ∷ rest) line un = from_more byte rest line (ends_line byte) refl un (λ l is. from_front rest l is)

-- the tally of a text has as many as tell one
pub total_is : (text : List ℕ) → total (tally_of text) ≡ refused_told text
unfolding refused_in
total_is text =
    let all : 0 + refused_from [] text ≡ refused_from [] text = omega arith in
    counts text no_line ∙ ap (λ n. min n most) (all ∙ from_front text [] tt)

-- ---- a writer's bytes and their tally

both_hold : (a b : Bool) → (a && b) ≡ true → (a ≡ true) × (b ≡ true)
both_hold true true all = (refl, refl)
both_hold true false all = cc
both_hold false b all = cc

tally_same : (tally other : Tally) → is_tally tally other ≡ true → tally ≡ other
tally_same tally other is =
    let (front, count) = both_hold (bytes_eq tally.front other.front) (tally.count == other.count) is in
    ap (λ f. tally_so f tally.count) ((bytes_eq-Decides tally.front other.front).0 front) ∙ ap (tally_so other.front) (eqb-true tally.count other.count count)

tally_refl : (tally : Tally) → is_tally tally tally ≡ true
tally_refl tally =
    let front : bytes_eq tally.front tally.front ≡ true = (bytes_eq-Decides tally.front tally.front).1 refl in
    let count : (tally.count == tally.count) ≡ true = grind (arith, nat_tests) in
    rw (front, count) refl

counted_so : (bytes : List ℕ) (tally : Tally) → tally ≡ tally_of bytes → counted (Some bytes) tally ≡ Some bytes
counted_so bytes tally same =
    let is : is_tally tally (tally_of bytes) ≡ true = subst (λ (t : Tally). is_tally t (tally_of bytes) ≡ true) (sym same) (tally_refl (tally_of bytes)) in
    rw is refl

-- what is not counted is not known
abbrev counted_if : Bool → List ℕ → Option (List ℕ)
counted_if is bytes = if is then Some bytes else None

grows : (xs ys chunk : List ℕ) (before after : Tally) (is : Bool) → is_tally before (tally_of xs) ≡ is → after ≡ fold next before chunk → ys ≡ xs ++ chunk
    → Appends (counted_if is xs) (counted (Some ys) after) chunk
grows xs ys chunk before after false un after_is ys_is = tt
grows xs ys chunk before after true is after_is ys_is =
    let same : after ≡ tally_of ys =
    after_is ∙ ap (λ (t : Tally). fold next t chunk) (tally_same before (tally_of xs) is) ∙ sym (fold-append next no_line xs chunk) ∙ ap tally_of (sym ys_is) in
    subst (λ (held : Option (List ℕ)). Appends (Some xs) held chunk) (sym (counted_so ys after same)) ys_is

pub appends : (old new : Option (List ℕ)) (before after : Tally) (chunk : List ℕ) → after ≡ fold next before chunk → Appends old new chunk
    → Appends (counted old before) (counted new after) chunk
appends None new before after chunk is writes = tt
appends (Some xs) None before after chunk is writes = absurd writes
appends (Some xs) (Some ys) before after chunk is writes = grows xs ys chunk before after (is_tally before (tally_of xs)) refl is writes

told_so : (bytes : List ℕ) (tally : Tally) (is : Bool) → is_tally tally (tally_of bytes) ≡ is → IfSome (counted_if is bytes) (λ held. total tally ≡ refused_told held)
told_so bytes tally true is = ap total (tally_same tally (tally_of bytes) is) ∙ total_is bytes
told_so bytes tally false un = tt

-- what a writer's tally comes to is so of what it holds
pub told : (held : Option (List ℕ)) (tally : Tally) → IfSome (counted held tally) (λ bytes. total tally ≡ refused_told bytes)
told None tally = tt
told (Some bytes) tally = told_so bytes tally (is_tally tally (tally_of bytes)) refl

-- a line that tells none is none more
pub none_more : (count : ℕ) (front : List ℕ) → count < 2 ^ 64 → tells_refusal front ≡ false → count ≡ total (tally_so front count)
none_more count front within none = rw none (omega (arith, within))

-- A line that is read up to its line feed, and with it, is the first one of what is left.
use Rattle.std.proofs.Common.{◌≡◌, ℕ, Bool, true, false, ◌==◌, ◌||◌, List, [], ◌∷◌, ◌++◌, refl, ap, sym, subst, ◌∙◌, Option, Some, None, IfSome, append_assoc, append-nil, length, ◌<◌, arith}
use Rattle.std.proofs.lemmas.List.Folds.{list_any-append}
use Rattle.std.specs.List.{list_any, onto_first}
use Rattle.std.specs.Io.BufRead.{take_through, drop_through, DropsThrough}
use Rattle.gi_live.specs.Lines.{IsAtEnd, ResendsFirst, TakesLines, TakesNext, given_lines, is_alone, is_halt, is_query, is_resend, lines_left}
use Rattle.gi_live.specs.Stretches.{EndsAt}

lines-feed : (byte : ℕ) (bytes : List ℕ) → (byte == 10) ≡ true → given_lines (byte ∷ bytes) ≡ (byte ∷ []) ∷ given_lines bytes
unfolding given_lines
lines-feed byte bytes e = rw e refl

lines-other : (byte : ℕ) (bytes : List ℕ) → (byte == 10) ≡ false → given_lines (byte ∷ bytes) ≡ onto_first byte (given_lines bytes)
unfolding given_lines
lines-other byte bytes e = rw e refl

lines_none : given_lines [] ≡ []
unfolding given_lines
lines_none = refl

take_through-feed : (byte : ℕ) (bytes : List ℕ) → (byte == 10) ≡ true → take_through 10 (byte ∷ bytes) ≡ byte ∷ []
take_through-feed byte bytes e = rw e refl

take_through-other : (byte : ℕ) (bytes : List ℕ) → (byte == 10) ≡ false → take_through 10 (byte ∷ bytes) ≡ byte ∷ take_through 10 bytes
take_through-other byte bytes e = rw e refl

drop_through-feed : (byte : ℕ) (bytes : List ℕ) → (byte == 10) ≡ true → drop_through 10 (byte ∷ bytes) ≡ bytes
drop_through-feed byte bytes e = rw e refl

drop_through-other : (byte : ℕ) (bytes : List ℕ) → (byte == 10) ≡ false → drop_through 10 (byte ∷ bytes) ≡ drop_through 10 bytes
drop_through-other byte bytes e = rw e refl

-- the first line of some bytes, and the others
parted : (byte : ℕ) (bytes : List ℕ) → given_lines (byte ∷ bytes) ≡ take_through 10 (byte ∷ bytes) ∷ given_lines (drop_through 10 (byte ∷ bytes))
parted byte [] = by (byte == 10) refl
  where
    by : (b : Bool) → (byte == 10) ≡ b → given_lines (byte ∷ []) ≡ take_through 10 (byte ∷ []) ∷ given_lines (drop_through 10 (byte ∷ []))
    by true is = rw (take_through-feed byte [] is, drop_through-feed byte [] is) (lines-feed byte [] is)
    by false is = rw (take_through-other byte [] is, drop_through-other byte [] is, lines-other byte [] is, lines_none) refl
parted byte (next ∷ bytes) = by (parted next bytes) (byte == 10) refl
  where
    rest : List ℕ
    rest = next ∷ bytes

    by : given_lines rest ≡ take_through 10 rest ∷ given_lines (drop_through 10 rest) → (b : Bool) → (byte == 10) ≡ b
        → given_lines (byte ∷ rest) ≡ take_through 10 (byte ∷ rest) ∷ given_lines (drop_through 10 (byte ∷ rest))
    by later true is = rw (take_through-feed byte rest is, drop_through-feed byte rest is) (lines-feed byte rest is)
    by later false is =
        rw (take_through-other byte rest is, drop_through-other byte rest is) (lines-other byte rest is ∙ ap (onto_first byte) later)

next_is : (xs : List ℕ) → (xs ≡ [] → ⊥) → given_lines xs ≡ take_through 10 xs ∷ given_lines (drop_through 10 xs)
next_is [] some = absurd (some refl)
next_is (byte ∷ bytes) some = parted byte bytes

pub takes_next : (old new : Option (List ℕ)) (none read : List ℕ) → none ≡ [] → IfSome old (λ xs. read ≡ none ++ take_through 10 xs)
    → DropsThrough old new 10 → (read ≡ [] → ⊥) → TakesLines (lines_left None old) (read ∷ []) (lines_left None new)
takes_next None new none read empty is rest some = tt
takes_next (Some xs) new none read empty is rest some =
    let whole : read ≡ take_through 10 xs = is ∙ ap (λ l. l ++ take_through 10 xs) empty in
    rw rest (next_is xs (λ nothing. some (whole ∙ ap (take_through 10) nothing)) ∙ ap (λ l. l ∷ given_lines (drop_through 10 xs)) (sym whole))

-- nothing is read where nothing is left
none_through : (xs : List ℕ) → take_through 10 xs ≡ [] → xs ≡ []
none_through [] is = refl
none_through (byte ∷ bytes) is = by (byte == 10) refl
  where
    by : (b : Bool) → (byte == 10) ≡ b → byte ∷ bytes ≡ []
    by true same = absurd (let no = sym (take_through-feed byte bytes same) ∙ is in cc)
    by false same = absurd (let no = sym (take_through-other byte bytes same) ∙ is in cc)

pub takes_end : (old new : Option (List ℕ)) (none read : List ℕ) → none ≡ [] → IfSome old (λ xs. read ≡ none ++ take_through 10 xs)
    → DropsThrough old new 10 → read ≡ [] → TakesNext (lines_left None old) None (lines_left None new)
takes_end None new none read empty is rest nothing = (tt, tt)
takes_end (Some xs) new none read empty is rest nothing =
    let through : take_through 10 xs ≡ [] = sym (is ∙ ap (λ l. l ++ take_through 10 xs) empty) ∙ nothing in
    let end : xs ≡ [] = none_through xs through in
    let left : new ≡ Some [] = rest ∙ ap (λ (bytes : List ℕ). Some (drop_through 10 bytes)) end in
    let here : given_lines xs ≡ [] = ap given_lines end ∙ lines_none in
    (rw left (here ∙ sym lines_none), here)

pub takes_none : (old : Option (List (List ℕ))) → TakesLines old [] old
takes_none None = tt
takes_none (Some all) = refl

pub takes_both : (old between new : Option (List (List ℕ))) (taken more : List (List ℕ)) → TakesLines old taken between → TakesLines between more new
    → TakesLines old (taken ++ more) new
takes_both None between new taken more first next = tt
takes_both (Some all) None new taken more first next = absurd first
takes_both (Some all) (Some middle) None taken more first next = absurd next
takes_both (Some all) (Some middle) (Some left) taken more first next =
    first ∙ ap (λ ls. taken ++ ls) next ∙ sym (append_assoc taken more left)

-- the same where no further line was taken
pub takes_same : (old between new : Option (List (List ℕ))) (taken : List (List ℕ)) → TakesLines old taken between → TakesLines between [] new
    → TakesLines old taken new
takes_same old between new taken first next =
    subst (λ ls. TakesLines old ls new) (append-nil taken) (takes_both old between new taken [] first next)

-- all bytes of an input, where no line is left
pub takes_all : (input : Option (List ℕ)) (left : Option (List (List ℕ))) (all : List (List ℕ)) → TakesLines (lines_left None input) all left → IsAtEnd left
    → IfSome input (λ bytes. given_lines bytes ≡ all)
takes_all None left all takes end = tt
takes_all (Some bytes) None all takes end = absurd takes
takes_all (Some bytes) (Some rest) all takes end = takes ∙ ap (λ ls. all ++ ls) end ∙ append-nil all

-- the end of what is left, where the input is known
pub ends_at : (input left rest : Option (List (List ℕ))) (lines : List (List ℕ)) → TakesLines input lines left → IsAtEnd left → TakesLines left [] rest → EndsAt input rest
ends_at None left rest lines takes end further = tt
ends_at (Some all) None rest lines takes end further = absurd takes
ends_at (Some all) (Some left) None lines takes end further = absurd further
ends_at (Some all) (Some left) (Some rest) lines takes end further = sym further ∙ end

-- all bytes of an input, of which lines were taken up to where no line is left
pub takes_whole : (input : Option (List ℕ)) (left rest : Option (List (List ℕ))) (first all : List (List ℕ)) → TakesLines (lines_left None input) first left
    → TakesLines (lines_left None input) all rest → EndsAt left rest → IfSome input (λ bytes. given_lines bytes ≡ all)
takes_whole None left rest first all before takes end = tt
takes_whole (Some bytes) None rest first all before takes end = absurd before
takes_whole (Some bytes) (Some left) rest first all before takes end = takes_all (Some bytes) rest all takes end

-- ---- lines that are taken by themselves

or_left : (a b : Bool) → a ≡ true → (a || b) ≡ true
or_left true b is = refl
or_left false b is = absurd (let no : false ≡ true = is in cc)

or_right : (a b : Bool) → b ≡ true → (a || b) ≡ true
or_right true b is = refl
or_right false b is = is

any_more : (one other : List ℕ → Bool) → ((line : List ℕ) → one line ≡ true → other line ≡ true) → (lines : List (List ℕ)) → list_any one lines ≡ true → list_any other lines ≡ true
any_more one other implies [] is = absurd (let no : false ≡ true = is in cc)
any_more one other implies (line ∷ lines) is = by (any_more one other implies lines) (one line) refl
  where
    by : (list_any one lines ≡ true → list_any other lines ≡ true) → (b : Bool) → one line ≡ b → list_any other (line ∷ lines) ≡ true
    by later true here = or_left (other line) (list_any other lines) (implies line here)
    by later false here = or_right (other line) (list_any other lines) (later (let e : (one line || list_any one lines) ≡ true = is in sym (rw here refl) ∙ e))

pub query_alone : (lines : List (List ℕ)) → list_any is_query lines ≡ true → list_any is_alone lines ≡ true
query_alone lines is = any_more is_query is_alone (λ line here. or_right (is_halt line) (is_query line) here) lines is

pub halt_alone : (lines : List (List ℕ)) → list_any is_halt lines ≡ true → list_any is_alone lines ≡ true
halt_alone lines is = any_more is_halt is_alone (λ line here. or_left (is_halt line) (is_query line) here) lines is

-- ---- resendings

none_more : (lines : List (List ℕ)) (line : List ℕ) → list_any is_resend lines ≡ false → is_resend line ≡ false → list_any is_resend (lines ++ line ∷ []) ≡ false
none_more lines line none is = list_any-append is_resend lines (line ∷ []) ∙ rw (none, is) refl

-- a line more that is none, or the first
pub resends_more : (lines : List (List ℕ)) (line : List ℕ) → ResendsFirst lines → (0 < length lines → is_resend line ≡ false) → ResendsFirst (lines ++ line ∷ [])
resends_more [] line before is = refl
resends_more (first ∷ lines) line before is = none_more lines line before (is (omega arith))

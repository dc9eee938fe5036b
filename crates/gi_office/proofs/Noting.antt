-- What the trail has of a seat, found entry by entry.
use Rattle.std.proofs.Common.{◌≡◌, ◌≢◌, ◌≤◌, ◌<◌, ℕ, zero, suc, ◌+◌, ◌-◌, List, [], ◌∷◌, ◌++◌, length, take, drop, get_or, slice_get, Bool, true, false, cond, nat_eq, None, Some, refl, sym, ap, ◌∙◌, arith, add-one}
use Rattle.std.proofs.lemmas.List.{drop_more, length-take, take-append-drop}
use Rattle.std.proofs.lemmas.Bool.Decides.{nat_tests}
use Rattle.std.proofs.lemmas.Option.{slice_get_past}
use Rattle.std.proofs.Math.Seq.{take-append_seam, take-suc}
use Rattle.gi_office.specs.Settling.{DiffersAt, note_of, notes_from, notes_of}
use Rattle.gi_office.specs.declared.entry.Entry.{Entry}
use Rattle.gi_office.specs.declared.note.Note.{Note}

append_by : (b : Bool) (note : Note) (these rest those : List Note) → these ≡ rest ++ those → cond b (note ∷ these) these ≡ cond b (note ∷ rest) rest ++ those
append_by true note these rest those e = ap (λ l. note ∷ l) e
append_by false note these rest those e = e

notes_from-append : (place number : ℕ) (xs ys : List Entry) → notes_from place number (xs ++ ys) ≡ notes_from place number xs ++ notes_from (place + length xs) number ys
notes_from-append place number [] ys = ap (λ p. notes_from p number ys) (omega arith)
notes_from-append place number (x ∷ xs) ys =
    append_by (nat_eq x.seat number) (note_of place x) _ _ _
    (notes_from-append (place + 1) number xs ys ∙ ap (λ p. notes_from (place + 1) number xs ++ notes_from p number ys) (omega arith))

split : (number i : ℕ) (trail : List Entry) (entry : Entry) → i < length trail → entry ≡ get_or trail i entry
    → notes_of number trail ≡ notes_of number (take i trail) ++ notes_from (i + 1) number (entry ∷ drop (i + 1) trail)
split number i trail entry below is =
    let parts : trail ≡ take i trail ++ entry ∷ drop (i + 1) trail =
    sym (take-append-drop i trail) ∙ ap (λ l. take i trail ++ l) (drop_more trail i entry below ∙ ap (λ e. e ∷ drop (i + 1) trail) (sym is)) in
    let count : length (take i trail) ≡ i = grind (length-take, arith) in
    ap (λ l. notes_of number l) parts ∙ notes_from-append 1 number (take i trail) (entry ∷ drop (i + 1) trail)
    ∙ ap (λ p. notes_of number (take i trail) ++ notes_from p number (entry ∷ drop (i + 1) trail)) (ap (λ n. 1 + n) count ∙ omega arith)

taken_more : (number i : ℕ) (trail : List Entry) (entry : Entry) → i < length trail → entry ≡ get_or trail i entry
    → notes_of number (take (i + 1) trail) ≡ notes_of number (take i trail) ++ notes_from (i + 1) number (entry ∷ [])
taken_more number i trail entry below is =
    let more : take (i + 1) trail ≡ take i trail ++ entry ∷ [] =
    ap (λ n. take n trail) (add-one i) ∙ take-suc trail i entry below ∙ ap (λ e. take i trail ++ e ∷ []) (sym is) in
    let count : length (take i trail) ≡ i = grind (length-take, arith) in
    ap (λ l. notes_of number l) more ∙ notes_from-append 1 number (take i trail) (entry ∷ [])
    ∙ ap (λ p. notes_of number (take i trail) ++ notes_from p number (entry ∷ [])) (ap (λ n. 1 + n) count ∙ omega arith)

is_own : (m n : ℕ) → m ≡ n → nat_eq m n ≡ true
is_own m n e = grind (arith, nat_tests)

is_other : (m n : ℕ) → m ≢ n → nat_eq m n ≡ false
is_other m n e = grind (arith, nat_tests)

one_of : (place number : ℕ) (entry : Entry) (later : List Entry) → nat_eq entry.seat number ≡ true → notes_from place number (entry ∷ later) ≡ note_of place entry ∷ notes_from (place + 1) number later
one_of place number entry later is = rw is refl

none_of : (place number : ℕ) (entry : Entry) (later : List Entry) → nat_eq entry.seat number ≡ false → notes_from place number (entry ∷ later) ≡ notes_from (place + 1) number later
none_of place number entry later is = rw is refl

pub passed : (number i next : ℕ) (notes : List Note) (trail : List Entry) (entry : Entry) → i < length trail → entry ≡ get_or trail i entry → entry.seat ≢ number
    → take next notes ≡ notes_of number (take i trail) → take next notes ≡ notes_of number (take (i + 1) trail)
passed number i next notes trail entry below is other same =
    same ∙ sym (taken_more number i trail entry below is ∙ ap (λ l. notes_of number (take i trail) ++ l) (none_of (i + 1) number entry [] (is_other entry.seat number other)) ∙ nothing (notes_of number (take i trail)))
  where
    nothing : (l : List Note) → l ++ [] ≡ l
    nothing [] = refl
    nothing (x ∷ l) = ap (λ k. x ∷ k) (nothing l)

got_more : (next : ℕ) (notes : List Note) (note : Note) → slice_get notes next ≡ Some note → take (next + 1) notes ≡ take next notes ++ note ∷ []
got_more next [] note is = absurd cc
got_more zero (x ∷ notes) note is = let same : x ≡ note = cc in ap (λ e. e ∷ []) same
got_more (suc next) (x ∷ notes) note is = rw (add-one (suc next)) (ap (λ l. x ∷ l) (rw (add-one next) at (got_more next notes note is)))

pub matched : (number i next : ℕ) (notes : List Note) (trail : List Entry) (entry : Entry) → i < length trail → entry ≡ get_or trail i entry → entry.seat ≡ number
    → slice_get notes next ≡ Some (note_of (i + 1) entry) → take next notes ≡ notes_of number (take i trail) → take (next + 1) notes ≡ notes_of number (take (i + 1) trail)
matched number i next notes trail entry below is own noted same =
    got_more next notes (note_of (i + 1) entry) noted ∙ ap (λ l. l ++ note_of (i + 1) entry ∷ []) same
    ∙ sym (taken_more number i trail entry below is ∙ ap (λ l. notes_of number (take i trail) ++ l) (one_of (i + 1) number entry [] (is_own entry.seat number own)))

get_seam : (xs : List Note) (y : Note) (ys : List Note) (n : ℕ) → length xs ≡ n → slice_get (xs ++ y ∷ ys) n ≡ Some y
get_seam [] y ys zero e = refl
get_seam [] y ys (suc n) e = absurd (omega arith)
get_seam (x ∷ xs) y ys zero e = absurd (omega arith)
get_seam (x ∷ xs) y ys (suc n) e = get_seam xs y ys n (omega arith)

take_seam : (xs ys : List Note) (n : ℕ) → length xs ≡ n → take n (xs ++ ys) ≡ xs
take_seam xs ys n e = ap (λ k. take k (xs ++ ys)) (sym e) ∙ take-append_seam xs ys

taken : (next : ℕ) (notes : List Note) → next ≤ length notes → length (take next notes) ≡ next
taken next notes within = grind (length-take, arith)

by_one : (next : ℕ) → (next + 1) - 1 ≡ next
by_one next = omega arith

pub differs : (number i next : ℕ) (notes : List Note) (trail : List Entry) (entry : Entry) → i < length trail → entry ≡ get_or trail i entry → entry.seat ≡ number
    → next ≤ length notes → slice_get notes next ≢ Some (note_of (i + 1) entry) → take next notes ≡ notes_of number (take i trail) → DiffersAt (next + 1) notes (notes_of number trail)
differs number i next notes trail entry below is own within other same =
    let rest = notes_from (i + 1 + 1) number (drop (i + 1) trail) in
    let all : notes_of number trail ≡ take next notes ++ note_of (i + 1) entry ∷ rest =
    split number i trail entry below is ∙ ap (λ l. notes_of number (take i trail) ++ l) (one_of (i + 1) number entry (drop (i + 1) trail) (is_own entry.seat number own))
    ∙ ap (λ l. l ++ note_of (i + 1) entry ∷ rest) (sym same) in
    let count = taken next notes within in
    record {
      some = omega arith;
      alike = rw (by_one next, all) (sym (take_seam (take next notes) (note_of (i + 1) entry ∷ rest) next count));
      other = λ e. other ((rw (by_one next, all) at e) ∙ get_seam (take next notes) (note_of (i + 1) entry) rest next count);
    }

all_of : (notes : List Note) (n : ℕ) → length notes ≤ n → take n notes ≡ notes
all_of [] zero e = refl
all_of [] (suc n) e = refl
all_of (x ∷ notes) zero e = absurd (omega arith)
all_of (x ∷ notes) (suc n) e = ap (λ l. x ∷ l) (all_of notes n (omega arith))

all_entries : (trail : List Entry) (n : ℕ) → length trail ≤ n → take n trail ≡ trail
all_entries [] zero e = refl
all_entries [] (suc n) e = refl
all_entries (x ∷ trail) zero e = absurd (omega arith)
all_entries (x ∷ trail) (suc n) e = ap (λ l. x ∷ l) (all_entries trail n (omega arith))

pub ends : (number i next : ℕ) (notes : List Note) (trail : List Entry) → length trail ≤ i → length notes ≤ next → take next notes ≡ notes_of number (take i trail) → notes ≡ notes_of number trail
ends number i next notes trail over past same = sym (all_of notes next past) ∙ same ∙ ap (λ l. notes_of number l) (all_entries trail i over)

is_there : (notes : List Note) (n : ℕ) → n < length notes → slice_get notes n ≡ None → ⊥
is_there [] n below none = omega arith
is_there (x ∷ notes) zero below none = cc
is_there (x ∷ notes) (suc n) below none = is_there notes n (omega arith) none

pub longer : (number i next : ℕ) (notes : List Note) (trail : List Entry) → length trail ≤ i → next < length notes → take next notes ≡ notes_of number (take i trail) → DiffersAt (next + 1) notes (notes_of number trail)
longer number i next notes trail over below same =
    let all : notes_of number trail ≡ take next notes = sym (same ∙ ap (λ l. notes_of number l) (all_entries trail i over)) in
    let count = taken next notes (omega arith) in
    record {
      some = omega arith;
      alike = rw (by_one next, all) (sym (all_of (take next notes) next (omega (arith, count))));
      other = λ e. is_there notes next below ((rw (by_one next, all) at e) ∙ slice_get_past (take next notes) next (omega (arith, count)));
    }

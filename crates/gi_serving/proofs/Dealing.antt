-- What is dealt to a session, and its words, one line, one body or one word more.
use Rattle.std.proofs.Common.{◌≡◌, ◌≢◌, ◌⊎◌, inl, inr, eqb, append-nil, ◌<◌, ◌≤◌, ◌==◌, nat_eq, if◌then◌else◌, cond, ℕ, suc, ◌+◌, ◌-◌, length, List, [], ◌∷◌, ◌++◌, map, take, drop, drop-drop, get_or, set, slice_get, Vec, Bool, true, false, Result, Ok, Err, refl, ap, ◌∙◌, sym, subst, arith}
use Rattle.std.specs.List.{flat_map}
use Rattle.std.specs.Prelude.{IfOk, IsOk, OnOk}
use Rattle.std.proofs.lemmas.Bool.Decides.{eqb_tells}
use Rattle.std.proofs.lemmas.List.{flat_map_more, get_or-map, get_or-set_other, get_or-set_same, length-append, length-map, length-take-le, map-set, take_more}
use Rattle.std.proofs.lemmas.List.FromFn.{length-map-range_with_len, map-range_with_len_more}
use Rattle.gi_office.specs.Keeping.{SeatState}
use Rattle.gi_office.specs.declared.receipt.Receipt.{Receipt}
use Rattle.gi_pairs.specs.declared.side.Side.{Side}
use Rattle.gi_script.specs.declared.line.Line.{Line}
use Rattle.gi_serving.specs.Asking.{NotesMarks}
use Rattle.gi_serving.specs.Assigning.{sessions_of}
use Rattle.gi_serving.specs.Batches.{submission}
use Rattle.gi_serving.specs.Submitting.{AreWords, AreWordsOf, HasMain, SessionsMake, SessionsSubmit, SubmitsBatch, bodies_in, bodies_of, body_for, dealt, dealt_to_all, in_order, word_for}
use Rattle.gi_serving.specs.declared.word.Word.{Word}

-- ---- the bodies

pub line_more : (side : Side) (lines : List Line) (i : ℕ) (line : Line) (old new : List (List ℕ)) → i < length lines → line ≡ get_or lines i line
    → old ≡ bodies_of side (take i lines) → new ≡ old ++ body_for side (submission line.instruction) → new ≡ bodies_of side (take (i + 1) lines)
line_more side lines i line old new below at is added =
    let f = λ (l : Line). body_for side (submission l.instruction) in
    added
    ∙ ap (λ (bs : List (List ℕ)). bs ++ f line) is
    ∙ flat_map_more f [] (take i lines) line
    ∙ ap (λ (l : Line). flat_map f (take i lines ++ l ∷ [])) at
    ∙ ap (flat_map f) (sym (take_more lines i line below))

more_if : {X : Type 0} (c : Bool) (item : X) (left right end : List X) → left ≡ right ++ end → cond c (item ∷ left) left ≡ cond c (item ∷ right) right ++ end
more_if true item left right end same = ap (λ (is : List _). item ∷ is) same
more_if false item left right end same = same

pub dealt_append : {X : Type 0} (number : ℕ) (numbers : List ℕ) (items : List X) (one : ℕ) (item : X) → length numbers ≡ length items
    → dealt number (numbers ++ one ∷ []) (items ++ item ∷ []) ≡ dealt number numbers items ++ (if one == number then item ∷ [] else [])
dealt_append number [] [] one item same = refl
dealt_append number [] (other ∷ items) one item same = absurd (omega (arith, same))
dealt_append number (other ∷ numbers) [] one item same = absurd (omega (arith, same))
dealt_append number (other ∷ numbers) (first ∷ items) one item same =
    more_if (nat_eq other number) first (dealt number (numbers ++ one ∷ []) (items ++ item ∷ [])) (dealt number numbers items) (if one == number then item ∷ [] else [])
    (dealt_append number numbers items one item (omega (arith, same)))

body_more : {X : Type 0} (number : ℕ) (numbers : List ℕ) (items : List X) (i : ℕ) (d : X) → i < length numbers → i < length items
    → dealt number (take (i + 1) numbers) (take (i + 1) items)
    ≡ dealt number (take i numbers) (take i items) ++ (if get_or numbers i 0 == number then get_or items i d ∷ [] else [])
body_more number numbers items i d below within =
    ap (λ (ns : List ℕ). dealt number ns (take (i + 1) items)) (take_more numbers i 0 below)
    ∙ ap (λ (is : List _). dealt number (take i numbers ++ get_or numbers i 0 ∷ []) is) (take_more items i d within)
    ∙ dealt_append number (take i numbers) (take i items) (get_or numbers i 0) (get_or items i d)
    (omega (arith, length-take-le i numbers (omega (arith, below)), length-take-le i items (omega (arith, within))))

pub taken : (number : ℕ) (numbers : List ℕ) (bodies : List (List ℕ)) (i : ℕ) (body : List ℕ) (old new : List (List ℕ)) → i < length numbers → i < length bodies
    → get_or numbers i 0 ≡ number → body ≡ get_or bodies i body → old ≡ dealt number (take i numbers) (take i bodies) → new ≡ old ++ body ∷ []
    → new ≡ dealt number (take (i + 1) numbers) (take (i + 1) bodies)
taken number numbers bodies i body old new below within here at is added = by (eqb_tells (get_or numbers i 0) number)
  where
    so_far : List (List ℕ)
    so_far = dealt number (take i numbers) (take i bodies)

    by : ((eqb (get_or numbers i 0) number ≡ true) × (get_or numbers i 0 ≡ number)) ⊎ ((eqb (get_or numbers i 0) number ≡ false) × (get_or numbers i 0 ≢ number))
        → new ≡ dealt number (take (i + 1) numbers) (take (i + 1) bodies)
    by (inl same) =
        added
        ∙ ap (λ (bs : List (List ℕ)). bs ++ body ∷ []) is
        ∙ ap (λ (b : List ℕ). so_far ++ b ∷ []) at
        ∙ ap (λ (c : Bool). so_far ++ cond c (get_or bodies i body ∷ []) []) (sym same.0)
        ∙ sym (body_more number numbers bodies i body below within)
    by (inr other) = absurd (other.1 here)

pub passed : (number : ℕ) (numbers : List ℕ) (bodies : List (List ℕ)) (i : ℕ) (old new : List (List ℕ)) → i < length numbers → i < length bodies
    → get_or numbers i 0 ≢ number → old ≡ dealt number (take i numbers) (take i bodies) → new ≡ old
    → new ≡ dealt number (take (i + 1) numbers) (take (i + 1) bodies)
passed number numbers bodies i old new below within other is kept = by (eqb_tells (get_or numbers i 0) number)
  where
    so_far : List (List ℕ)
    so_far = dealt number (take i numbers) (take i bodies)

    by : ((eqb (get_or numbers i 0) number ≡ true) × (get_or numbers i 0 ≡ number)) ⊎ ((eqb (get_or numbers i 0) number ≡ false) × (get_or numbers i 0 ≢ number))
        → new ≡ dealt number (take (i + 1) numbers) (take (i + 1) bodies)
    by (inl same) = absurd (other same.1)
    by (inr apart) =
        kept
        ∙ is
        ∙ sym (append-nil so_far)
        ∙ ap (λ (c : Bool). so_far ++ cond c (get_or bodies i [] ∷ []) []) (sym apart.0)
        ∙ sym (body_more number numbers bodies i [] below within)

pub dealt_more : (count : ℕ) (numbers : List ℕ) (bodies : List (List ℕ)) (lists new : List (List (List ℕ)))
    → lists ≡ dealt_to_all count numbers bodies → new ≡ lists ++ dealt (count + 1) numbers bodies ∷ [] → new ≡ dealt_to_all (count + 1) numbers bodies
dealt_more count numbers bodies lists new so_far added =
    added
    ∙ ap (λ (front : List (List (List ℕ))). front ++ dealt (count + 1) numbers bodies ∷ []) so_far
    ∙ sym (map-range_with_len_more (λ (number : ℕ). dealt number numbers bodies) 1 count (count + 1) (omega arith))

pub as_many : {Z : Type 0} (count : ℕ) (numbers : List ℕ) (bodies : List (List ℕ)) (lists : List (Vec (List ℕ) Z)) → map bodies_in lists ≡ dealt_to_all count numbers bodies → length lists ≡ count
as_many {Z} count numbers bodies lists is =
    sym (length-map lists (bodies_in {Z = Z})) ∙ ap length is ∙ length-map-range_with_len (λ (number : ℕ). dealt number numbers bodies) 1 count

-- ---- the words of a session

pub words_more : (receipts : List Receipt) (words : List Word) (word : Word) → word ≡ word_for (slice_get (drop (length words) receipts) 0) → AreWordsOf receipts words → AreWordsOf receipts (words ++ word ∷ [])
words_more receipts [] word is are = (is, tt)
words_more receipts (first ∷ words) word is are = (are.0, words_more (drop 1 receipts) words word (is ∙ ap (λ (rs : List Receipt). word_for (slice_get rs 0)) on) are.1)
  where
    on : drop (suc (length words)) receipts ≡ drop (length words) (drop 1 receipts)
    on =
        let one : suc (length words) ≡ 1 + length words = omega arith in
        ap (λ (n : ℕ). drop n receipts) one ∙ sym (drop-drop (length words) 1 receipts)

-- the words so far of one session, and what receipts are left of it
pub record Told (number : ℕ) (numbers : List ℕ) (all left : List Receipt) (words : List Word) : Type 0 where
  pub are : AreWordsOf all (dealt number numbers words)
  pub left_is : left ≡ drop (length (dealt number numbers words)) all

told_here : (numbers : List ℕ) (number : ℕ) (all left next : List Receipt) (words : List Word) (word : Word) → length numbers ≡ length words
    → word ≡ word_for (slice_get left 0) → next ≡ drop 1 left → Told number numbers all left words
    → Told number (numbers ++ number ∷ []) all next (words ++ word ∷ [])
told_here numbers number all left next words word same is after told = record {
  are = subst (λ (ws : List Word). AreWordsOf all ws) (sym one_more) (words_more all (dealt number numbers words) word (is ∙ ap (λ (rs : List Receipt). word_for (slice_get rs 0)) told.left_is) told.are);
  left_is = after ∙ ap (drop 1) told.left_is ∙ drop-drop 1 (length (dealt number numbers words)) all ∙ ap (λ (n : ℕ). drop n all) (sym count);
}
  where
    chosen : eqb number number ≡ true
    chosen = search arith

    one_more : dealt number (numbers ++ number ∷ []) (words ++ word ∷ []) ≡ dealt number numbers words ++ word ∷ []
    one_more = dealt_append number numbers words number word same ∙ ap (λ (c : Bool). dealt number numbers words ++ cond c (word ∷ []) []) chosen

    count : length (dealt number (numbers ++ number ∷ []) (words ++ word ∷ [])) ≡ length (dealt number numbers words) + 1
    count = ap length one_more ∙ length-append (dealt number numbers words) (word ∷ [])

told_elsewhere : (numbers : List ℕ) (number one : ℕ) (all left : List Receipt) (words : List Word) (word : Word) → length numbers ≡ length words → one ≢ number
    → Told number numbers all left words → Told number (numbers ++ one ∷ []) all left (words ++ word ∷ [])
told_elsewhere numbers number one all left words word same apart told = by (eqb_tells one number)
  where
    by : ((eqb one number ≡ true) × (one ≡ number)) ⊎ ((eqb one number ≡ false) × (one ≢ number)) → Told number (numbers ++ one ∷ []) all left (words ++ word ∷ [])
    by (inl is) = absurd (apart is.1)
    by (inr not) = record {
      are = subst (λ (ws : List Word). AreWordsOf all ws) (sym none_more) told.are;
      left_is = told.left_is ∙ ap (λ (ws : List Word). drop (length ws) all) (sym none_more);
    }
      where
        none_more : dealt number (numbers ++ one ∷ []) (words ++ word ∷ []) ≡ dealt number numbers words
        none_more = dealt_append number numbers words one word same ∙ ap (λ (c : Bool). dealt number numbers words ++ cond c (word ∷ []) []) not.0 ∙ append-nil (dealt number numbers words)

-- of each session
abbrev pub AllTold : List ℕ → List (List Receipt) → List (List Receipt) → List Word → Type 0
AllTold numbers all left words = (before : ℕ) → before < length all → Told (before + 1) numbers (get_or all before []) (get_or left before []) words

pub told_more : (numbers : List ℕ) (number : ℕ) (all left next : List (List Receipt)) (words : List Word) (word : Word) → length numbers ≡ length words
    → 1 ≤ number → number ≤ length all → length left ≡ length all
    → word ≡ word_for (slice_get (get_or left (number - 1) []) 0) → next ≡ set left (number - 1) (drop 1 (get_or left (number - 1) []))
    → AllTold numbers all left words → AllTold (numbers ++ number ∷ []) all next (words ++ word ∷ [])
told_more numbers number all left next words word same some within many is after told before below = by (eqb_tells before (number - 1))
  where
    here : before ≡ number - 1 → Told (before + 1) (numbers ++ number ∷ []) (get_or all before []) (get_or next before []) (words ++ word ∷ [])
    here at =
        let place : before + 1 ≡ number = omega (arith, at, some) in
        let own : Told number numbers (get_or all before []) (get_or left before []) words = subst (λ (n : ℕ). Told n numbers (get_or all before []) (get_or left before []) words) place (told before below) in
        let first : word ≡ word_for (slice_get (get_or left before []) 0) = is ∙ ap (λ (n : ℕ). word_for (slice_get (get_or left n []) 0)) (sym at) in
        let rest : get_or next before [] ≡ drop 1 (get_or left before []) =
        ap (λ (ls : List (List Receipt)). get_or ls before []) (after ∙ ap (λ (n : ℕ). set left n (drop 1 (get_or left n []))) (sym at)) ∙ get_or-set_same left before (drop 1 (get_or left before [])) [] (omega (arith, below, many)) in
        subst (λ (n : ℕ). Told n (numbers ++ number ∷ []) (get_or all before []) (get_or next before []) (words ++ word ∷ [])) (sym place)
        (told_here numbers number (get_or all before []) (get_or left before []) (get_or next before []) words word same first rest own)

    by : ((eqb before (number - 1) ≡ true) × (before ≡ number - 1)) ⊎ ((eqb before (number - 1) ≡ false) × (before ≢ number - 1))
        → Told (before + 1) (numbers ++ number ∷ []) (get_or all before []) (get_or next before []) (words ++ word ∷ [])
    by (inl at) = here at.1
    by (inr apart) =
        let kept : get_or next before [] ≡ get_or left before [] = ap (λ (ls : List (List Receipt)). get_or ls before []) after ∙ get_or-set_other left (number - 1) before (drop 1 (get_or left (number - 1) [])) [] apart.1 in
        subst (λ (rs : List Receipt). Told (before + 1) (numbers ++ number ∷ []) (get_or all before []) rs (words ++ word ∷ [])) (sym kept)
        (told_elsewhere numbers (before + 1) number (get_or all before []) (get_or left before []) words word same (λ e. apart.1 (omega (arith, e))) (told before below))

pub told_next : {Z : Type 0} (numbers : List ℕ) (i : ℕ) (all left : List (Vec Receipt Z)) (list after : Vec Receipt Z) (words next : List Word) (word : Word)
    → i < length numbers → length words ≡ i → length left ≡ length all → 1 ≤ get_or numbers i 0 → get_or numbers i 0 ≤ length all
    → list ≡ get_or left (get_or numbers i 0 - 1) list → word ≡ word_for (slice_get (in_order list) 0) → in_order after ≡ drop 1 (in_order list) → next ≡ words ++ word ∷ []
    → AllTold (take i numbers) (map in_order all) (map in_order left) words
    → AllTold (take (i + 1) numbers) (map in_order all) (map in_order (set left (get_or numbers i 0 - 1) after)) next
told_next {Z} numbers i all left list after words next word below count many some within at is rest added told =
    subst (λ (ws : List Word). AllTold (take (i + 1) numbers) (map in_order all) (map in_order (set left place after)) ws) (sym added)
    (subst (λ (ns : List ℕ). AllTold ns (map in_order all) (map in_order (set left place after)) (words ++ word ∷ [])) (sym (take_more numbers i 0 below))
    (told_more (take i numbers) number (map in_order all) (map in_order left) (map in_order (set left place after)) words word same some few lengths is_so after_so told))
  where
    number : ℕ
    number = get_or numbers i 0

    place : ℕ
    place = number - 1

    same : length (take i numbers) ≡ length words
    same = omega (arith, length-take-le i numbers (omega (arith, below)), count)

    few : number ≤ length (map in_order all)
    few = omega (arith, within, length-map all (in_order {Z = Z}))

    lengths : length (map in_order left) ≡ length (map in_order all)
    lengths = length-map left (in_order {Z = Z}) ∙ many ∙ sym (length-map all (in_order {Z = Z}))

    there : get_or (map in_order left) place [] ≡ in_order list
    there = get_or-map in_order left place list [] (omega (arith, some, within, many)) ∙ ap in_order (sym at)

    is_so : word ≡ word_for (slice_get (get_or (map in_order left) place []) 0)
    is_so = is ∙ ap (λ (rs : List Receipt). word_for (slice_get rs 0)) (sym there)

    after_so : map in_order (set left place after) ≡ set (map in_order left) place (drop 1 (get_or (map in_order left) place []))
    after_so = map-set in_order left place after ∙ ap (λ (rs : List Receipt). set (map in_order left) place rs) (rest ∙ ap (drop 1) (sym there))

-- ---- the batch

pub sessions_make : (side : Side) (sessions : ℕ) (bodies : List (List ℕ)) (numbers : List ℕ) (given : List (List (List ℕ))) (old : List SeatState) (receipts : List (List Receipt)) (words : List Word) (new : List SeatState)
    → numbers ≡ sessions_of sessions bodies → given ≡ dealt_to_all sessions numbers bodies → SessionsSubmit side given old receipts new → AreWords numbers receipts words
    → SessionsMake side sessions bodies old words new
sessions_make side sessions bodies numbers given old receipts words new dealing is submit are = record {
  receipts = receipts;
  submit = subst (λ (g : List (List (List ℕ))). SessionsSubmit side g old receipts new) (is ∙ ap (λ (ns : List ℕ). dealt_to_all sessions ns bodies) dealing) submit;
  words_are = subst (λ (ns : List ℕ). AreWords ns receipts words) dealing are;
}

pub submits_batch : (side : Side) (sessions : ℕ) (bodies : List (List ℕ)) (old others back new : List SeatState) (words : List Word) (main after : SeatState)
    → old ≡ others ++ main ∷ [] → new ≡ back ++ after ∷ [] → SessionsMake side sessions bodies others words back → NotesMarks main after → SubmitsBatch side sessions bodies old words new
submits_batch side sessions bodies old others back new words main after taken given make notes = record {
  others = others;
  main = main;
  back = back;
  after = after;
  old_is = taken;
  new_is = given;
  make = make;
  notes = notes;
}

pub main_submits : {Y Z E F : Type 0} (submitted : Result (Vec SeatState Y × Vec Word Z) E) (saved : Result (Unit {0}) F) (side : Side) (sessions : ℕ) (bodies : List (List ℕ)) (old others new : List SeatState) (words : List Word) (main after : SeatState)
    → old ≡ others ++ main ∷ [] → IfOk submitted (λ it. SessionsMake side sessions bodies others it.1.items it.0.items) → OnOk saved (NotesMarks main after) → IsOk saved → HasMain submitted after new words
    → SubmitsBatch side sessions bodies old words new
main_submits (Ok it) (Ok done) side sessions bodies old others new words main after taken make notes ok has =
    subst (λ (ws : List Word). SubmitsBatch side sessions bodies old ws new) (sym has.1) (submits_batch side sessions bodies old others it.0.items new it.1.items main after taken has.0 make notes)
main_submits (Ok it) (Err fault) side sessions bodies old others new words main after taken make notes ok has = let no : false ≡ true = ok in absurd cc
main_submits (Err fault) saved side sessions bodies old others new words main after taken make notes ok has = absurd has

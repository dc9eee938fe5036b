-- Several facts that are written as one text are read back, and what is read are 1 to 64 facts.
use Rattle.std.proofs.Common.{◌≡◌, ◌≢◌, inl, inr, ℕ, ◌≤◌, Bool, ◌&&◌, nat_le, cond, true, false, List, [], ◌∷◌, ◌++◌, length, get_or, map, Option, Some, None, option_and_then, Result, Ok, Err, refl, sym, ap, ◌∙◌, subst, arith}
use Rattle.std.specs.Prelude.{IfOk}
use Rattle.std.specs.Global.{Vec}
use Rattle.std.specs.List.{AllByRecursion}
use Rattle.std.specs.Result.{result_ok}
use Rattle.std.proofs.lemmas.Bool.{cases_Bool}
use Rattle.std.proofs.lemmas.Bool.Decides.{nat_tests}
use Rattle.std.proofs.lemmas.Option.{option_and_then_some}
use Rattle.json.specs.Print.{print}
use Rattle.json.specs.Written.{Written}
use Rattle.serde_json.specs.Data.{Data, Items, null, boolean, number, string, array, object, items_depth}
use Rattle.serde_json.specs.Find.{as_array}
use Rattle.serde_json.specs.View.{items_of}
use Rattle.serde_json.specs.Written.{compact_text}
use Rattle.gi_messages.specs.Adding.{Added, tokens_of}
use Rattle.gi_messages.specs.Json.{json_of}
use Rattle.gi_messages.specs.Reading.{Read, ◌>>=◌, each}
use Rattle.gi_messages.proofs.FieldLemmas.{as_elements, each_takes, items_len-Each}
use Rattle.gi_messages.proofs.Plain.{ArePlainItems, json_of-compact_text}
use Rattle.gi_messages.proofs.WrittenTokens.{text_is}
use Rattle.gi_facts.specs.Batch.{array_text, batch_of, batch_of_value, batch_text, facts_data, holds_several, most_facts, one_fact, several}
use Rattle.gi_facts.specs.Decoding.{fact}
use Rattle.gi_facts.specs.Grammar.{IsFact, IsWritable}
use Rattle.gi_facts.specs.Writing.{closing_data, contract_data, data_of, fact_text, meeting_data, nomination_data, notice_data}
use Rattle.gi_facts.specs.declared.fact.Fact.{Fact}
use Rattle.gi_facts.specs.declared.fact.Fact.TheVariants as facts
use Rattle.gi_facts.proofs.ReadingLemmas.{Reads-fact, fact_again}
use Rattle.gi_facts.proofs.WritingLemmas.{data_of-stands, depth-data_of, fits_from_writable_fact, plain}

-- ---- the array that is written

shallow : (fs : List Fact) → items_depth (items_of (map data_of fs)) ≤ 126
shallow [] = omega arith
shallow (f ∷ fs) = omega (arith, depth-data_of f, shallow fs)

plain_facts : (fs : List Fact) → AllByRecursion IsWritable fs → ArePlainItems (items_of (map data_of fs))
plain_facts [] h = tt
plain_facts (f ∷ fs) h = (plain f (fits_from_writable_fact f h.0), plain_facts fs h.1)

each_again : (fs : List Fact) → AllByRecursion IsWritable fs → each fact (items_of (map data_of fs)) ≡ Ok fs
unfolding each
each_again [] h = refl
each_again (f ∷ fs) h =
    ap (λ (r : Read Fact). r >>= λ x. each fact (items_of (map data_of fs)) >>= λ xs. Ok (x ∷ xs)) (fact_again (data_of f) f (data_of-stands f h.0))
    ∙ ap (λ (r : Read (List Fact)). r >>= λ xs. Ok (f ∷ xs)) (each_again fs h.1)

written : (fs : List Fact) → AllByRecursion IsWritable fs → json_of (compact_text (facts_data fs)) ≡ Some (facts_data fs)
written fs h = json_of-compact_text (facts_data fs) (plain_facts fs h) (omega (arith, shallow fs))

-- ---- what is written is read back

several_is : (fs : List Fact) → 2 ≤ length fs → length fs ≤ 64 → several fs ≡ Some fs
several_is fs low high =
    let a : nat_le 2 (length fs) ≡ true = grind (arith, nat_tests, low) in
    let b : nat_le (length fs) 64 ≡ true = grind (arith, nat_tests, high) in
    rw (a, b) refl

one_object : (f : Fact) → batch_of_value (data_of f) ≡ result_ok (one_fact (data_of f))
unfolding contract_data notice_data nomination_data closing_data meeting_data
one_object (facts.Contracted c) = refl
one_object (facts.Noticed n) = refl
one_object (facts.Nominated m) = refl
one_object (facts.Closed id rule) = refl
one_object (facts.Met id peer) = refl

pub batch_again : (fs : List Fact) → AllByRecursion IsWritable fs → 1 ≤ length fs → length fs ≤ 64 → batch_of (batch_text fs) ≡ Some fs
unfolding batch_of array_text fact_text
batch_again [] h low high = absurd (omega (arith, low))
batch_again (f ∷ []) h low high =
    ap (λ (o : Option Data). option_and_then batch_of_value o) (json_of-compact_text (data_of f) (plain f (fits_from_writable_fact f h.0)) (omega (arith, depth-data_of f)))
    ∙ (one_object f ∙ ap (λ (r : Read Fact). result_ok (r >>= λ found. Ok (found ∷ []))) (fact_again (data_of f) f (data_of-stands f h.0)))
batch_again (f ∷ g ∷ fs) h low high =
    ap (λ (o : Option Data). option_and_then batch_of_value o) (written (f ∷ g ∷ fs) h)
    ∙ (ap (λ (r : Read (List Fact)). option_and_then several (result_ok r)) (each_again (f ∷ g ∷ fs) h) ∙ several_is (f ∷ g ∷ fs) (omega arith) high)

-- ---- how many facts are read

abbrev AreFew : List Fact → Type 0
AreFew fs = (1 ≤ length fs) × (length fs ≤ 64)

several_few : (gs fs : List Fact) → several gs ≡ Some fs → AreFew fs
several_few gs fs e = elim (cases_Bool (nat_le 2 (length gs) && nat_le (length gs) most_facts)) [
  | inl within ↦
      let same : gs ≡ fs = (let s : ◌≡◌ {A = Option (List Fact)} (Some gs) (Some fs) = rw within at e in cc) in
      subst AreFew same (grind (arith, nat_tests, within), grind (arith, nat_tests, within))
  | inr over ↦ absurd (let s : ◌≡◌ {A = Option (List Fact)} None (Some fs) = rw over at e in cc)
]

one_few : (r : Read Fact) (fs : List Fact) → result_ok (r >>= λ found. Ok (found ∷ [])) ≡ Some fs → AreFew fs
one_few (Ok f) fs e = let same : (f ∷ []) ≡ fs = cc in subst AreFew same (omega arith, omega arith)
one_few (Err key) fs e = absurd cc

value_few : (d : Data) (fs : List Fact) → batch_of_value d ≡ Some fs → AreFew fs
value_few null fs e = one_few (fact null) fs e
value_few (boolean b) fs e = one_few (fact (boolean b)) fs e
value_few (number n) fs e = one_few (fact (number n)) fs e
value_few (string s) fs e = one_few (fact (string s)) fs e
value_few (array ds) fs e = option_and_then_some several (result_ok (each fact ds)) fs e (λ gs is found. several_few gs fs found)
value_few (object ms) fs e = one_few (fact (object ms)) fs e

pub batch_few : (bytes : List ℕ) (fs : List Fact) → batch_of bytes ≡ Some fs → (1 ≤ length fs) × (length fs ≤ 64)
unfolding batch_of
batch_few bytes fs e = option_and_then_some batch_of_value (json_of bytes) fs e (λ d is found. value_few d fs found)

-- ---- what `encode_batch` answers

alone_text : (fs : List Fact) (f : Fact) → fs ≡ f ∷ [] → fact_text f ≡ batch_text fs
unfolding array_text
alone_text fs f is = rw is refl

more_text : (fs : List Fact) → length fs ≢ 1 → compact_text (facts_data fs) ≡ batch_text fs
unfolding array_text
more_text [] many = refl
more_text (f ∷ []) many = absurd (many refl)
more_text (f ∷ g ∷ fs) many = refl

pub only : (fs : List Fact) (f : Fact) → length fs ≡ 1 → f ≡ get_or fs 0 f → fs ≡ f ∷ []
only [] f one is = absurd cc
only (g ∷ []) f one is = ap (λ x. x ∷ []) (sym is)
only (g ∷ h ∷ fs) f one is = absurd (omega (arith, one))

pub is_alone : {E : Type 0} (fs : List Fact) (f : Fact) (r : Result (Vec ℕ) E) → fs ≡ f ∷ [] → IfOk r (λ bytes. bytes.items ≡ fact_text f) → IfOk r (λ bytes. bytes.items ≡ batch_text fs)
is_alone fs f (Ok bytes) is h = h ∙ alone_text fs f is
is_alone fs f (Err e) is h = tt

-- the text of facts that were added to nothing
pub is_several : {a b : Written} (fs : List Fact) (bytes : List ℕ) → length fs ≢ 1 → a.before ≡ [] → a.tokens ≡ [] → Added a b (tokens_of (facts_data fs)) → bytes ≡ b.before ++ print b.tokens → bytes ≡ batch_text fs
is_several fs bytes many before none h is = is ∙ (text_is (facts_data fs) before none h ∙ more_text fs many)

-- ---- what is read of an array

module _ (ds : Items) (b : Bool) (counted : holds_several (array ds) ≡ b) where
  as_counted : (fs : List Fact) → each fact ds ≡ Ok fs → several fs ≡ cond b (Some fs) None
  as_counted fs read =
      let as_many = items_len-Each IsFact ds fs (each_takes fact IsFact Reads-fact ds fs read) in
      ap (λ test. cond test (Some fs) None) (subst (λ n. nat_le 2 n && nat_le n most_facts ≡ b) as_many counted)

holds_none : (ds : Items) → holds_several (array ds) ≡ false → (r : Read (List Fact)) → each fact ds ≡ r → option_and_then several (result_ok r) ≡ None
holds_none ds over (Ok fs) read = as_counted ds false over fs read
holds_none ds over (Err key) read = refl

-- an array of too few or too many elements
pub is_miscounted : (d : Data) (ds : Items) → as_array d ≡ Some ds → holds_several d ≡ false → batch_of_value d ≡ None
is_miscounted d ds is over =
    let same = as_elements d ds is in
    ap batch_of_value same ∙ holds_none ds (subst (λ v. holds_several v ≡ false) same over) (each fact ds) refl

-- an array of as many as there may be
pub is_several_read : (d : Data) (ds : Items) (fs : List Fact) → as_array d ≡ Some ds → holds_several d ≡ true → each fact ds ≡ Ok fs → batch_of_value d ≡ Some fs
is_several_read d ds fs is within read =
    let same = as_elements d ds is in
    ap batch_of_value same ∙ ap (λ (r : Read (List Fact)). option_and_then several (result_ok r)) read ∙ as_counted ds true (subst (λ v. holds_several v ≡ true) same within) fs read

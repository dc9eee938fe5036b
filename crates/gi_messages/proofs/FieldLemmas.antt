-- A reader answers exactly what stands in the relation.
use Rattle.std.proofs.Common.{◌≡◌, ℕ, ◌≤◌, inl, inr, Bool, true, false, cond, ◌&&◌, nat_le, List, [], ◌∷◌, length, Option, Some, None, option_and_then, Ok, Err, refl, sym, ap, ◌∙◌, subst, leb-true, le-leb, suc}
use Rattle.std.specs.List.{AllByRecursion}
use Rattle.std.proofs.lemmas.Bool.{and_parts}
use Rattle.std.proofs.lemmas.Option.{option_and_then_some}
use Rattle.serde_json.specs.Data.{Data, null, boolean, number, string, array, object, unsigned, negative, float, Items, no_items, item}
use Rattle.serde_json.specs.Events.{items_len}
use Rattle.serde_json.specs.Find.{get, as_number, as_u64, as_str, as_array}
use Rattle.gi_pairs.specs.Direction.{direction_named}
use Rattle.gi_messages.specs.declared.key.Key.{Key}
use Rattle.gi_messages.specs.Key.{key_text}
use Rattle.gi_messages.specs.Dates.{day_of}
use Rattle.gi_messages.specs.Names.{code_of}
use Rattle.gi_messages.specs.Grammar.{Has, HasOr, IsText, NamesCode, NamesDay, NamesDirection, IsWhole, Each, AreElements}
use Rattle.gi_messages.specs.Reading.{Read, ◌>>=◌, wanted, member_at, limited, whole, or_usual, each, code, day, direction}
use Rattle.gi_messages.specs.Reading as reading
use Rattle.gi_messages.proofs.DateLemmas.{day_of-takes, day_of-again}
use Rattle.gi_messages.proofs.NameLemmas.{code_of-takes, code_of-again, direction_named-takes, direction_named-again}

-- what is read stands in the relation, and what stands in it is read
pub record Reads {X : Type 0} (read : Data → Read X) (Stands : Data → X → Type 0) : Type 0 where
  pub takes : (d : Data) (x : X) → read d ≡ Ok x → Stands d x
  pub again : (d : Data) (x : X) → Stands d x → read d ≡ Ok x

-- the value of a step that did not fail
pub bind_ok : {X Y : Type 0} (r : Read X) (f : X → Read Y) (y : Y) → (r >>= f) ≡ Ok y → (x : X) × (r ≡ Ok x) × (f x ≡ Ok y)
bind_ok (Ok x) f y e = (x, refl, e)
bind_ok (Err key) f y e = absurd cc

pub wanted_ok : {X : Type 0} (key : Key) (o : Option X) (x : X) → wanted key o ≡ Ok x → o ≡ Some x
wanted_ok key (Some y) x e = cc
wanted_ok key None x e = absurd cc

-- a field, from its value
pub Reads-field : {X : Type 0} (key : Key) (read : Data → Read X) (Stands : Data → X → Type 0) → Reads read Stands → Reads (λ d. member_at key d >>= read) (Has Stands key)
Reads-field key read Stands r = record {
  takes = λ d x e.
      let b = bind_ok (member_at key d) read x e in
      record { value = b.0; found = wanted_ok key (get (key_text key) d) b.0 b.1; stands = r.takes b.0 x b.2 };
  again = λ d x h. ap (λ (s : Read Data). s >>= read) (ap (wanted key) h.found) ∙ r.again h.value x h.stands;
}

-- ---- numbers

limited_some : (low high n m : ℕ) (b : Bool) → nat_le low n && nat_le n high ≡ b → cond b (Some n) None ≡ Some m → (n ≡ m) × (low ≤ n) × (n ≤ high)
limited_some low high n m true within e = let p = and_parts (nat_le low n) (nat_le n high) within in (cc, leb-true low n p.0, leb-true n high p.1)
limited_some low high n m false within e = absurd cc

as_whole : (d : Data) (n : ℕ) → option_and_then as_u64 (as_number d) ≡ Some n → d ≡ number (unsigned n)
as_whole null n e = absurd cc
as_whole (boolean b) n e = absurd cc
as_whole (number (unsigned m)) n e = let same : m ≡ n = cc in ap (λ k. number (unsigned k)) same
as_whole (number (negative z)) n e = absurd cc
as_whole (number (float x)) n e = absurd cc
as_whole (string s) n e = absurd cc
as_whole (array ds) n e = absurd cc
as_whole (object ms) n e = absurd cc

pub Reads-whole : (low high : ℕ) (key : Key) → Reads (whole low high key) (IsWhole low high)
Reads-whole low high key = record {
  takes = λ d n e.
      let some = wanted_ok key (option_and_then (limited low high) (option_and_then as_u64 (as_number d))) n e in
      option_and_then_some (limited low high) (option_and_then as_u64 (as_number d)) n some (λ m is within.
      let l = limited_some low high m n (nat_le low m && nat_le m high) refl within in
      record { written = as_whole d n (is ∙ ap Some l.0); from = subst (λ k. low ≤ k) l.0 l.1; to = subst (λ k. k ≤ high) l.0 l.2 });
  again = λ d n h. rw (h.written, le-leb low n h.from, le-leb n high h.to) refl;
}

pub Reads-number : (low high : ℕ) (key : Key) → Reads (reading.number low high key) (Has (IsWhole low high) key)
unfolding reading.number
Reads-number low high key = Reads-field key (whole low high key) (IsWhole low high) (Reads-whole low high key)

-- a number that may be missing
module _ (usual low high : ℕ) (key : Key) (d : Data) (n : ℕ) where
  or_takes : (o : Option Data) → get (key_text key) d ≡ o → or_usual usual (whole low high key) o ≡ Ok n → HasOr usual (IsWhole low high) key d n
  or_takes None is e = let same : usual ≡ n = cc in inl (is, sym same)
  or_takes (Some v) is e = inr (record { value = v; found = is; stands = (Reads-whole low high key).takes v n e })

  or_again : HasOr usual (IsWhole low high) key d n → or_usual usual (whole low high key) (get (key_text key) d) ≡ Ok n
  or_again (inl (none, same)) = rw (none, same) refl
  or_again (inr h) = ap (or_usual usual (whole low high key)) h.found ∙ (Reads-whole low high key).again h.value n h.stands

pub Reads-number_or : (usual low high : ℕ) (key : Key) → Reads (reading.number_or usual low high key) (HasOr usual (IsWhole low high) key)
unfolding reading.number_or
Reads-number_or usual low high key = record {
  takes = λ d n e. or_takes usual low high key d n (get (key_text key) d) refl e;
  again = λ d n h. or_again usual low high key d n h;
}

-- ---- texts

pub as_text : (d : Data) (s : List ℕ) → as_str d ≡ Some s → d ≡ string s
as_text null s e = absurd cc
as_text (boolean b) s e = absurd cc
as_text (number n) s e = absurd cc
as_text (string t) s e = let same : t ≡ s = cc in ap string same
as_text (array ds) s e = absurd cc
as_text (object ms) s e = absurd cc

-- what a text at a key names
pub Reads-named : {X : Type 0} (key : Key) (of_text : List ℕ → Option X) (Names : List ℕ → X → Type 0) → ((text : List ℕ) (x : X) → of_text text ≡ Some x → Names text x) → ((text : List ℕ) (x : X) → Names text x → of_text text ≡ Some x)
    → Reads (λ d. reading.text key d >>= λ name. wanted key (of_text name)) (Has (IsText Names) key)
unfolding reading.text
Reads-named key of_text Names takes again = record {
  takes = λ d x e.
      let a = bind_ok (reading.text key d) (λ name. wanted key (of_text name)) x e in
      let b = bind_ok (member_at key d) (λ v. wanted key (as_str v)) a.0 a.1 in
      record {
        value = b.0;
        found = wanted_ok key (get (key_text key) d) b.0 b.1;
        stands = record { text = a.0; written = as_text b.0 a.0 (wanted_ok key (as_str b.0) a.0 b.2); names = takes a.0 x (wanted_ok key (of_text a.0) x a.2) };
      };
  again = λ d x h.
      let found : get (key_text key) d ≡ Some (string h.stands.text) = h.found ∙ ap Some h.stands.written in
      ap (λ o. (wanted key o >>= λ v. wanted key (as_str v)) >>= λ name. wanted key (of_text name)) found ∙ ap (wanted key) (again h.stands.text x h.stands.names);
}

pub Reads-code : (key : Key) → Reads (code key) (Has (IsText NamesCode) key)
unfolding code
Reads-code key = Reads-named key code_of NamesCode code_of-takes (λ text x h. code_of-again text h.0 ∙ ap Some h.1)

pub Reads-day : (key : Key) → Reads (day key) (Has (IsText NamesDay) key)
unfolding day
Reads-day key = Reads-named key day_of NamesDay day_of-takes (λ text x h. day_of-again text x h.0 h.1.1)

pub Reads-direction : (key : Key) → Reads (direction key) (Has (IsText NamesDirection) key)
unfolding direction
Reads-direction key = Reads-named key direction_named NamesDirection direction_named-takes direction_named-again

-- ---- arrays

pub as_elements : (d : Data) (ds : Items) → as_array d ≡ Some ds → d ≡ array ds
as_elements null ds e = absurd cc
as_elements (boolean b) ds e = absurd cc
as_elements (number n) ds e = absurd cc
as_elements (string s) ds e = absurd cc
as_elements (array es) ds e = let same : es ≡ ds = cc in ap array same
as_elements (object ms) ds e = absurd cc

module _ {X : Type 0} (read : Data → Read X) (Stands : Data → X → Type 0) (r : Reads read Stands) where
  pub each_takes : (ds : Items) (xs : List X) → each read ds ≡ Ok xs → Each Stands ds xs
  unfolding each
  each_takes no_items [] e = tt
  each_takes no_items (x ∷ xs) e = absurd cc
  each_takes (item d ds) xs e =
      let a = bind_ok (read d) (λ x. each read ds >>= λ rest. Ok (x ∷ rest)) xs e in
      let b = bind_ok (each read ds) (λ rest. Ok (a.0 ∷ rest)) xs a.2 in
      let made : a.0 ∷ b.0 ≡ xs = cc in
      subst (λ ys. Each Stands (item d ds) ys) made (r.takes d a.0 a.1, each_takes ds b.0 b.1)

  pub each_again : (ds : Items) (xs : List X) → Each Stands ds xs → each read ds ≡ Ok xs
  unfolding each
  each_again no_items [] h = refl
  each_again no_items (x ∷ xs) h = absurd h
  each_again (item d ds) [] h = absurd h
  each_again (item d ds) (x ∷ xs) h = rw (r.again d x h.0, each_again ds xs h.1) refl

pub items_len-Each : {X : Type 0} (Stands : Data → X → Type 0) (ds : Items) (xs : List X) → Each Stands ds xs → items_len ds ≡ length xs
items_len-Each Stands no_items [] h = refl
items_len-Each Stands no_items (x ∷ xs) h = absurd h
items_len-Each Stands (item d ds) [] h = absurd h
items_len-Each Stands (item d ds) (x ∷ xs) h = ap suc (items_len-Each Stands ds xs h.1)

-- an array at a key
pub items_takes : (key : Key) (d : Data) (ds : Items) → reading.items key d ≡ Ok ds → get (key_text key) d ≡ Some (array ds)
unfolding reading.items
items_takes key d ds e =
    let b = bind_ok (member_at key d) (λ v. wanted key (as_array v)) ds e in
    wanted_ok key (get (key_text key) d) b.0 b.1 ∙ ap Some (as_elements b.0 ds (wanted_ok key (as_array b.0) ds b.2))

pub items_again : {X : Type 0} (Stands : Data → X → Type 0) (key : Key) (d : Data) (xs : List X) (h : Has (AreElements Stands) key d xs) → reading.items key d ≡ Ok h.stands.elements
unfolding reading.items
items_again Stands key d xs h = ap (λ o. wanted key o >>= λ v. wanted key (as_array v)) (h.found ∙ ap Some h.stands.written)

pub Reads-array : {X : Type 0} (key : Key) (read : Data → Read X) (Stands : Data → X → Type 0) → Reads read Stands → Reads (λ d. reading.items key d >>= each read) (Has (AreElements Stands) key)
Reads-array key read Stands r = record {
  takes = λ d xs e.
      let b = bind_ok (reading.items key d) (each read) xs e in
      record { value = array b.0; found = items_takes key d b.0 b.1; stands = record { elements = b.0; written = refl; each = each_takes read Stands r b.0 xs b.2 } };
  again = λ d xs h. ap (λ (s : Read Items). s >>= each read) (items_again Stands key d xs h) ∙ each_again read Stands r h.stands.elements xs h.stands.each;
}

-- what follows for each element holds of all
pub all_of_each : {X : Type 0} (Stands : Data → X → Type 0) (P : X → Type 0) → ((d : Data) (x : X) → Stands d x → P x) → (ds : Items) (xs : List X) → Each Stands ds xs → AllByRecursion P xs
all_of_each Stands P f ds [] h = tt
all_of_each Stands P f no_items (x ∷ xs) h = absurd h
all_of_each Stands P f (item d ds) (x ∷ xs) h = (f d x h.0, all_of_each Stands P f ds xs h.1)

-- A reader refuses with exactly the keys that its relation names.
use Rattle.std.proofs.Common.{◌≡◌, ◌≤◌, inl, inr, ℕ, Bool, true, false, cond, [], ◌∷◌, Option, Some, None, Ok, Err, refl, sym, ap, ◌∙◌, subst, nat_lt, le-ltb, ltb-false}
use Rattle.std.specs.Prelude.{is_some}
use Rattle.serde_json.specs.Data.{Data, null, boolean, number, string, array, object, Items, no_items, item, Members}
use Rattle.serde_json.specs.Find.{as_array, as_object, get}
use Rattle.gi_messages.specs.declared.key.Key.{Key}
use Rattle.gi_messages.specs.FirstFault.{Among, IsArray, IsObject, Field, Lacks, Part, Then}
use Rattle.gi_messages.specs.Grammar.{Each, Has}
use Rattle.gi_messages.specs.Key.{key_text}
use Rattle.gi_messages.specs.Reading.{Read, ◌>>=◌, each, member_at, wanted}
use Rattle.gi_messages.specs.Reading as reading
use Rattle.gi_messages.proofs.FieldLemmas.{Reads, Reads-field, as_elements, each_takes, each_again, wanted_ok}

-- what is read is a value in the relation, and each such value is read
pub record Gets {X : Type 0} (read : Read X) (Stands : X → Type 0) : Type 0 where
  pub takes : (x : X) → read ≡ Ok x → Stands x
  pub again : (x : X) → Stands x → read ≡ Ok x

-- the keys that are named
pub record Refused {X : Type 0} (read : Read X) (Refuses : Key → Type 0) : Type 0 where
  pub takes : (key : Key) → read ≡ Err key → Refuses key
  pub again : (key : Key) → Refuses key → read ≡ Err key

-- no other key is named
pub Names : {X : Type 0} → Key → Read X → Type 0
Names key read = (named : Key) → read ≡ Err named → named ≡ key

pub gets : {X : Type 0} (read : Data → Read X) (Stands : Data → X → Type 0) → Reads read Stands → (d : Data) → Gets (read d) (Stands d)
gets read Stands r d = record { takes = r.takes d; again = r.again d }

abbrev failed : {X : Type 0} → Key → Read X
failed key = Err key

abbrev found : {X : Type 0} → X → Read X
found x = Ok x

err_is : {X : Type 0} (a b : Key) → failed {X = X} a ≡ failed b → a ≡ b
err_is a b e = cc

not_both : {X : Type 0} (x : X) (key : Key) → found x ≡ failed key → ⊥
not_both x key e = absurd cc

-- ---- one part after the other

module _ {X Y : Type 0} (read : Read X) (f : X → Read Y) (Stands : X → Type 0) (Refuses : Key → Type 0) (after : X → Key → Type 0) (g : Gets read Stands) (r : Refused read Refuses) (later : (x : X) → Stands x → Refused (f x) (after x)) where
  part_takes : (s : Read X) → read ≡ s → (key : Key) → (s >>= f) ≡ Err key → Part Stands Refuses after key
  part_takes (Ok x) is key e = let stands = g.takes x is in inr (x, stands, (later x stands).takes key e)
  part_takes (Err other) is key e = inl (r.takes key (is ∙ ap (λ k. failed {X = X} k) (err_is {X = Y} other key e)))

  part_again : (key : Key) → Part Stands Refuses after key → (read >>= f) ≡ Err key
  part_again key (inl refuses) = ap (λ (s : Read X). s >>= f) (r.again key refuses)
  part_again key (inr (x, stands, rest)) = ap (λ (s : Read X). s >>= f) (g.again x stands) ∙ (later x stands).again key rest

  pub part : Refused (read >>= f) (Part Stands Refuses after)
  part = record { takes = part_takes read refl; again = part_again }

-- a part that names one key
module _ {X : Type 0} (read : Read X) (Stands : X → Type 0) (key : Key) (g : Gets read Stands) (names : Names key read) where
  lacks_again : (s : Read X) → read ≡ s → (named : Key) → Lacks Stands key named → read ≡ Err named
  unfolding Names
  lacks_again (Ok x) is named h = absurd (h.1 x (g.takes x is))
  lacks_again (Err other) is named h = let same : other ≡ named = names other is ∙ sym h.0 in is ∙ ap (λ k. failed {X = X} k) same

  pub lacks : Refused read (Lacks Stands key)
  unfolding Names
  lacks = record {
    takes = λ named e. (names named e, λ x stands. not_both x named (sym (g.again x stands) ∙ e));
    again = lacks_again read refl;
  }

-- what is made of what was read
module _ {X Y : Type 0} (read : Read X) (f : X → Y) (Refuses : Key → Type 0) (r : Refused read Refuses) where
  made_takes : (s : Read X) → read ≡ s → (key : Key) → (s >>= λ x. found (f x)) ≡ Err key → Refuses key
  made_takes (Ok x) is key e = absurd (not_both (f x) key e)
  made_takes (Err other) is key e = r.takes key (is ∙ ap (λ k. failed {X = X} k) (err_is {X = Y} other key e))

  pub made : Refused (read >>= λ x. found (f x)) Refuses
  made = record { takes = made_takes read refl; again = λ key h. ap (λ (s : Read X). s >>= λ x. found (f x)) (r.again key h) }

-- a field, and what comes after it
pub field : {X Y : Type 0} (key : Key) (read : Data → Read X) (Stands : Data → X → Type 0) → Reads read (Has Stands key) → ((d : Data) → Names key (read d)) → (d : Data) (f : X → Read Y) (after : X → Key → Type 0)
    → ((x : X) → Refused (f x) (after x)) → Refused (read d >>= f) (Field Stands key d after)
field key read Stands r names d f after later =
    let g = gets read (Has Stands key) r d in
    part (read d) f (Has Stands key d) (Lacks (Has Stands key d) key) after g (lacks (read d) (Has Stands key d) key g (names d)) (λ x _. later x)

-- ---- readers that name one key

pub names-found : {X : Type 0} (key : Key) (x : X) → Names key (found x)
unfolding Names
names-found key x named e = absurd (not_both x named e)

pub names-wanted : {X : Type 0} (key : Key) (o : Option X) → Names key (wanted key o)
unfolding Names
names-wanted {X = X} key (Some x) named e = absurd (not_both x named e)
names-wanted {X = X} key None named e = err_is {X = X} named key (sym e)

names_next : {X Y : Type 0} (key : Key) (read : Read X) (f : X → Read Y) → Names key read → ((x : X) → Names key (f x)) → (s : Read X) → read ≡ s → Names key (s >>= f)
unfolding Names
names_next key read f first next (Ok x) is = next x
names_next {X = X} {Y = Y} key read f first next (Err other) is = λ named e. err_is {X = Y} named other (sym e) ∙ first other is

pub names-bind : {X Y : Type 0} (key : Key) (read : Read X) (f : X → Read Y) → Names key read → ((x : X) → Names key (f x)) → Names key (read >>= f)
names-bind key read f first next = names_next key read f first next read refl

pub names-test : {X : Type 0} (key : Key) (b : Bool) (read : Read X) → Names key read → Names key (cond b read (Err key))
unfolding Names
names-test key true read names = names
names-test {X = X} key false read names = λ named e. err_is {X = X} named key (sym e)

pub names-each : {X : Type 0} (key : Key) (read : Data → Read X) → ((d : Data) → Names key (read d)) → (ds : Items) → Names key (each read ds)
unfolding each
names-each key read names no_items = names-found key []
names-each key read names (item d ds) = names-bind key (read d) (λ x. each read ds >>= λ xs. found (x ∷ xs)) (names d) (λ x.
    names-bind key (each read ds) (λ xs. found (x ∷ xs)) (names-each key read names ds) (λ xs. names-found key (x ∷ xs)))

pub names-member : (key : Key) (d : Data) → Names key (member_at key d)
names-member key d = names-wanted key (get (key_text key) d)

-- ---- arrays and objects

Reads-array_itself : (key : Key) → Reads (λ v. wanted key (as_array v)) IsArray
Reads-array_itself key = record {
  takes = λ v ds e. as_elements v ds (wanted_ok key (as_array v) ds e);
  again = λ v ds is. ap (λ w. wanted key (as_array w)) is;
}

pub Reads-items : (key : Key) → Reads (reading.items key) (Has IsArray key)
unfolding reading.items
Reads-items key = Reads-field key (λ v. wanted key (as_array v)) IsArray (Reads-array_itself key)

pub names-items : (key : Key) (d : Data) → Names key (reading.items key d)
unfolding reading.items
names-items key d = names-bind key (member_at key d) (λ v. wanted key (as_array v)) (names-member key d) (λ v. names-wanted key (as_array v))

as_members : (d : Data) (ms : Members) → as_object d ≡ Some ms → d ≡ object ms
as_members null ms e = absurd cc
as_members (boolean b) ms e = absurd cc
as_members (number n) ms e = absurd cc
as_members (string s) ms e = absurd cc
as_members (array ds) ms e = absurd cc
as_members (object other) ms e = let same : other ≡ ms = cc in ap object same

object_gets : (key : Key) (d : Data) → Gets (wanted key (as_object d)) (IsObject d)
object_gets key d = record {
  takes = λ ms e. as_members d ms (wanted_ok key (as_object d) ms e);
  again = λ ms is. ap (λ w. wanted key (as_object w)) is;
}

object_first : {X : Type 0} (key : Key) (o : Option Members) (read : Read X) → (wanted key o >>= λ _. read) ≡ cond (is_some o) read (Err key)
object_first key (Some ms) read = refl
object_first key None read = refl

-- the same reader
pub like : {X : Type 0} (read other : Read X) (Refuses : Key → Type 0) → read ≡ other → Refused read Refuses → Refused other Refuses
like {X = X} read other Refuses same r = subst (λ (s : Read X). Refused s Refuses) same r

-- an object, whose fields are then read
pub in_object : {X : Type 0} (key : Key) (d : Data) (read : Read X) (Refuses : Key → Type 0) → Refused read Refuses → Refused (cond (is_some (as_object d)) read (Err key)) (Then (IsObject d) key (λ _. Refuses))
in_object key d read Refuses r = like (wanted key (as_object d) >>= λ _. read) (cond (is_some (as_object d)) read (Err key)) (Then (IsObject d) key (λ _. Refuses)) (object_first key (as_object d) read)
    (part (wanted key (as_object d)) (λ _. read) (IsObject d) (Lacks (IsObject d) key) (λ _. Refuses) (object_gets key d)
    (lacks (wanted key (as_object d)) (IsObject d) key (object_gets key d) (names-wanted key (as_object d))) (λ _ _. r))

not_few : (most count : ℕ) → nat_lt most count ≡ true → count ≤ most → ⊥
not_few most count over few = let none = le-ltb most count few in absurd cc

-- not too many, and then the elements
limit_takes : {X : Type 0} (key : Key) (most count : ℕ) (read : Read X) (Refuses : Key → Type 0) → Refused read Refuses → (b : Bool) → nat_lt most count ≡ b → (named : Key) → cond b (Err key) read ≡ Err named
    → Then {X = Unit {0}} (λ _. count ≤ most) key (λ _. Refuses) named
limit_takes {X = X} key most count read Refuses r true is named e = inl (err_is {X = X} named key (sym e), λ _ few. not_few most count is few)
limit_takes key most count read Refuses r false is named e = inr (tt, ltb-false most count is, r.takes named e)

limit_again : {X : Type 0} (key : Key) (most count : ℕ) (read : Read X) (Refuses : Key → Type 0) → Refused read Refuses → (b : Bool) → nat_lt most count ≡ b → (named : Key)
    → Then {X = Unit {0}} (λ _. count ≤ most) key (λ _. Refuses) named → cond b (Err key) read ≡ Err named
limit_again {X = X} key most count read Refuses r true is named (inl h) = ap (λ k. failed {X = X} k) (sym h.0)
limit_again key most count read Refuses r true is named (inr (u, few, rest)) = absurd (not_few most count is few)
limit_again key most count read Refuses r false is named (inl h) = absurd (h.1 tt (ltb-false most count is))
limit_again key most count read Refuses r false is named (inr (u, few, rest)) = r.again named rest

pub within : {X : Type 0} (key : Key) (most count : ℕ) (read : Read X) (Refuses : Key → Type 0) → Refused read Refuses
    → Refused (cond (nat_lt most count) (Err key) read) (Then {X = Unit {0}} (λ _. count ≤ most) key (λ _. Refuses))
within key most count read Refuses r = record { takes = limit_takes key most count read Refuses r (nat_lt most count) refl; again = limit_again key most count read Refuses r (nat_lt most count) refl }

-- ---- the first element that stands for nothing

module _ {X : Type 0} (read : Data → Read X) (Stands : Data → X → Type 0) (Refuses : Data → Key → Type 0) (r : Reads read Stands) (refused : (d : Data) → Refused (read d) (Refuses d)) where
  pub among : (ds : Items) → Refused (each read ds) (Among Stands Refuses ds)
  unfolding each
  among no_items = record { takes = λ key e. not_both [] key e; again = λ key h. absurd h }
  among (item d ds) =
      part (read d) (λ x. each read ds >>= λ xs. found (x ∷ xs)) (Stands d) (Refuses d) (λ _. Among Stands Refuses ds) (gets read Stands r d) (refused d)
      (λ x _. made (each read ds) (λ xs. x ∷ xs) (Among Stands Refuses ds) (among ds))

  pub each_gets : (ds : Items) → Gets (each read ds) (Each Stands ds)
  each_gets ds = record { takes = each_takes read Stands r ds; again = each_again read Stands r ds }

-- Tokens that begin with a value, or stand in an array, beside the value in the words of `serde_json`.
use Rattle.std.proofs.Common.{◌≡◌, ℕ, ◌≤◌, List, ◌∷◌, ◌++◌, length, Bool, true, false, cond, Option, Some, None, option_map, option_and_then, is_some, refl, sym, ap, ◌∙◌, subst, arith, append_assoc, length-append}
use Rattle.std.specs.Prelude.{MatchOption, IfNone}
use Rattle.std.specs.Str.{bytes_eq}
use Rattle.std.proofs.lemmas.Slice.Eq.{bytes_eq-Decides}
use Rattle.json.specs.Token.{Token}
use Rattle.json.specs.Json as json
use Rattle.json.specs.Json.{after_end_array}
use Rattle.json.specs.Find.{BeginsWith, InItems, later_or}
use Rattle.json.specs.Find as find
use Rattle.json.specs.Tree as tree
use Rattle.json.specs.Tree.{json_tokens, items_tokens, members_tokens}
use Rattle.json.proofs.Grammar.{closed_array}
use Rattle.json.proofs.Found.{items_close, items_go_on}
use Rattle.json.proofs.Printed.Trees.{value-json_tokens}
use Rattle.json.proofs.Unique.Spelling.{value-json_tokens_back}
use Rattle.serde_json.specs.Data.{Data, null, boolean, number, string, array, object, Items, no_items, item, Members, no_members, put}
use Rattle.serde_json.specs.Find.{get, get_member, as_str, as_number, as_u64, as_array, as_object}
use Rattle.serde_json.specs.Read.{of_json, of_items, of_members, number_of}
use Rattle.serde_json.proofs.Views.{get_member-put, get_member-put_other}
use Rattle.gi_messages.specs.Tokens.{value_at, elements_at, Begins, Holds}

-- ---- how deep a value nests

mutual
  shallow : (j : json.Json) → tree.depth j ≤ length (json_tokens j)
  shallow json.null = omega arith
  shallow (json.boolean b) = omega arith
  shallow (json.number s) = omega arith
  shallow (json.string s) = omega arith
  shallow (json.array js) = omega (arith, shallow_items js)
  shallow (json.object ms) = omega (arith, shallow_members ms)

  shallow_items : (js : json.Items) → tree.items_depth js ≤ length (items_tokens js)
  shallow_items json.no_items = omega arith
  shallow_items (json.item j js) = omega (arith, shallow j, shallow_items js, length-append (json_tokens j) (items_tokens js))

  shallow_members : (ms : json.Members) → tree.members_depth ms ≤ length (members_tokens ms)
  shallow_members json.no_members = omega arith
  shallow_members (json.member k j ms) = omega (arith, shallow j, shallow_members ms, length-append (json_tokens j) (members_tokens ms))

-- ---- the value that tokens begin with

read_whole : (j : json.Json) (rest : List Token) → json.value (length (json_tokens j ++ rest)) (json_tokens j ++ rest) ≡ Some (j, rest)
read_whole j rest = value-json_tokens j (length (json_tokens j ++ rest)) rest (omega (arith, shallow j, length-append (json_tokens j) rest))

pub value_at-Begins : (ts : List Token) (d : Data) → Begins ts d → value_at ts ≡ d
unfolding value_at
value_at-Begins ts d b =
    let spelled = value-json_tokens_back b.begins.0 ts b.begins.1 b.json b.begins.2 in
    rw (spelled, read_whole b.json b.begins.1, b.is)

-- ---- the elements of an array

abbrev IsSpelled : json.Items → List Token → Type 0
IsSpelled js ts = (rest : List Token) × (ts ≡ items_tokens js ++ rest)

none_spelled : (ts : List Token) (o : Option (List Token)) → after_end_array ts ≡ o → InItems ts json.no_items → IsSpelled json.no_items ts
none_spelled ts (Some rest) closed inside = (rest, closed_array ts rest closed)
none_spelled ts None goes_on inside = let f = items_go_on ts json.no_items goes_on inside in let never = f.5 in absurd cc

some_spelled : (j : json.Json) (js : json.Items) → ((ts : List Token) → InItems ts js → IsSpelled js ts) → (ts : List Token) (o : Option (List Token)) → after_end_array ts ≡ o → InItems ts (json.item j js)
    → IsSpelled (json.item j js) ts
some_spelled j js again ts (Some rest) closed inside =
    let never = items_close rest (json.item j js) (subst (λ l. InItems l (json.item j js)) (closed_array ts rest closed) inside) in absurd cc
some_spelled j js again ts None goes_on inside =
    let f = items_go_on ts (json.item j js) goes_on inside in
    let same = f.5 in
    let first : f.1 ≡ j = cc in
    let others : f.3 ≡ js = cc in
    let more = again f.2 (subst (InItems f.2) others f.6) in
    (more.0, value-json_tokens_back f.0 ts f.2 f.1 f.4 ∙ ap (λ i. json_tokens i ++ f.2) first ∙ ap (λ l. json_tokens j ++ l) more.1 ∙ sym (append_assoc (json_tokens j) (items_tokens js) more.0))

items_spelled : (js : json.Items) (ts : List Token) → InItems ts js → IsSpelled js ts
items_spelled json.no_items ts inside = none_spelled ts (after_end_array ts) refl inside
items_spelled (json.item j js) ts inside = some_spelled j js (items_spelled js) ts (after_end_array ts) refl inside

-- the whole array, with its opening bracket
array_begins : (ts : List Token) (ds : Items) → Holds ts ds → Begins (Token.begin_array ∷ ts) (array ds)
array_begins ts ds h =
    let spelled = items_spelled h.json ts h.inside in
    let whole : Token.begin_array ∷ ts ≡ json_tokens (json.array h.json) ++ spelled.0 = ap (λ l. Token.begin_array ∷ l) spelled.1 in
    let read = value-json_tokens (json.array h.json) (tree.depth (json.array h.json)) spelled.0 (omega arith) in
    record { json = json.array h.json; begins = (tree.depth (json.array h.json), spelled.0, ap (json.value (tree.depth (json.array h.json))) whole ∙ read); is = ap (option_map array) h.is }

pub elements-Holds : (ts : List Token) (ds : Items) → Holds ts ds → elements_at ts ≡ ds
unfolding elements_at
elements-Holds ts ds h = rw (value_at-Begins (Token.begin_array ∷ ts) (array ds) (array_begins ts ds h)) refl

-- ---- what a value is, by its kind

-- what stands at a number, a text, an array or an object is read as the same kind of value
made : {A B : Type 0} (f : A → B) (o : Option A) (d : B) → option_map f o ≡ Some d → (a : A) × (o ≡ Some a) × (d ≡ f a)
made f None d e = absurd cc
made f (Some a) d e = (a, refl, cc)

pub text_of : (j : json.Json) (d : Data) → of_json j ≡ Some d → find.as_str j ≡ as_str d
text_of json.null d e = let is : d ≡ null = cc in rw is refl
text_of (json.boolean b) d e = let is : d ≡ boolean b = cc in rw is refl
text_of (json.number s) d e = let m = made number (number_of s) d e in rw m.2 refl
text_of (json.string s) d e = let is : d ≡ string s = cc in rw is refl
text_of (json.array js) d e = let m = made array (of_items js) d e in rw m.2 refl
text_of (json.object ms) d e = let m = made object (of_members ms no_members) d e in rw m.2 refl

pub whole_of : (j : json.Json) (d : Data) → of_json j ≡ Some d → option_and_then (λ s. option_and_then as_u64 (number_of s)) (find.as_number j) ≡ option_and_then as_u64 (as_number d)
whole_of json.null d e = let is : d ≡ null = cc in rw is refl
whole_of (json.boolean b) d e = let is : d ≡ boolean b = cc in rw is refl
whole_of (json.number s) d e = let m = made number (number_of s) d e in ap (option_and_then as_u64) m.1 ∙ sym (ap (λ x. option_and_then as_u64 (as_number x)) m.2)
whole_of (json.string s) d e = let is : d ≡ string s = cc in rw is refl
whole_of (json.array js) d e = let m = made array (of_items js) d e in rw m.2 refl
whole_of (json.object ms) d e = let m = made object (of_members ms no_members) d e in rw m.2 refl

pub object_of : (j : json.Json) (d : Data) → of_json j ≡ Some d → is_some (find.as_object j) ≡ is_some (as_object d)
object_of json.null d e = let is : d ≡ null = cc in rw is refl
object_of (json.boolean b) d e = let is : d ≡ boolean b = cc in rw is refl
object_of (json.number s) d e = let m = made number (number_of s) d e in rw m.2 refl
object_of (json.string s) d e = let is : d ≡ string s = cc in rw is refl
object_of (json.array js) d e = let m = made array (of_items js) d e in rw m.2 refl
object_of (json.object ms) d e = let m = made object (of_members ms no_members) d e in rw m.2 refl

pub no_array : (j : json.Json) (d : Data) → of_json j ≡ Some d → find.as_array j ≡ None → as_array d ≡ None
no_array json.null d e n = let is : d ≡ null = cc in rw is refl
no_array (json.boolean b) d e n = let is : d ≡ boolean b = cc in rw is refl
no_array (json.number s) d e n = let m = made number (number_of s) d e in rw m.2 refl
no_array (json.string s) d e n = let is : d ≡ string s = cc in rw is refl
no_array (json.array js) d e n = absurd cc
no_array (json.object ms) d e n = let m = made object (of_members ms no_members) d e in rw m.2 refl

pub array_holds : (js : json.Items) (ts : List Token) (d : Data) → of_json (json.array js) ≡ Some d → InItems ts js → (ds : Items) × Holds ts ds × (d ≡ array ds)
array_holds js ts d e inside = let m = made array (of_items js) d e in (m.0, record { json = js; inside = inside; is = m.1 }, m.2)

-- ---- looking a key up

then_some : {A B : Type 0} (f : A → Option B) (o : Option A) (b : B) → option_and_then f o ≡ Some b → (a : A) × (o ≡ Some a) × (f a ≡ Some b)
then_some f None b e = absurd cc
then_some f (Some a) b e = (a, refl, e)

-- what is found among members that went in after others, of which one was found before
abbrev pub Agrees : Option json.Json → Option Data → Option Data → Type 0
Agrees None before after = after ≡ before
Agrees (Some j) before after = (d : Data) × (of_json j ≡ Some d) × (after ≡ Some d)

agree_at : (name k : List ℕ) (j : json.Json) (d : Data) (old : Members) (after : Option Data) → of_json j ≡ Some d → (later : Option json.Json) (same : Bool) → bytes_eq k name ≡ same
    → Agrees later (get_member name (put k d old)) after → Agrees (later_or later (cond same (Some j) None)) (get_member name old) after
agree_at name k j d old after is (Some l) same e h = h
agree_at name k j d old after is None true e h =
    let names : k ≡ name = (bytes_eq-Decides k name).0 e in
    (d, is, h ∙ ap (λ n. get_member n (put k d old)) (sym names) ∙ get_member-put k d old)
agree_at name k j d old after is None false e h =
    h ∙ get_member-put_other name k d old (λ names. let now = (bytes_eq-Decides k name).1 (sym names) in absurd cc)

members_agree : (name : List ℕ) (ms : json.Members) (old new : Members) → of_members ms old ≡ Some new → Agrees (find.get_member name ms) (get_member name old) (get_member name new)
members_agree name json.no_members old new e = let same : new ≡ old = cc in ap (get_member name) same
members_agree name (json.member k j ms) old new e =
    let first = then_some (λ d. of_members ms (put k d old)) (of_json j) new e in
    agree_at name k j first.0 old (get_member name new) first.1 (find.get_member name ms) (bytes_eq k name) refl (members_agree name ms (put k first.0 old) new first.2)

get_agrees : (name : List ℕ) (j : json.Json) (d : Data) → of_json j ≡ Some d → Agrees (find.get name j) None (get name d)
get_agrees name json.null d e = let is : d ≡ null = cc in rw is refl
get_agrees name (json.boolean b) d e = let is : d ≡ boolean b = cc in rw is refl
get_agrees name (json.number s) d e = let m = made number (number_of s) d e in rw m.2 refl
get_agrees name (json.string s) d e = let is : d ≡ string s = cc in rw is refl
get_agrees name (json.array js) d e = let m = made array (of_items js) d e in rw m.2 refl
get_agrees name (json.object ms) d e =
    let m = made object (of_members ms no_members) d e in
    subst (λ x. Agrees (find.get_member name ms) None (get name x)) (sym m.2) (members_agree name ms no_members m.0 m.1)

-- what was found, where something was
abbrev pub FoundAs : Option (List Token) → Option Data → Type 0
FoundAs None o = o ≡ None
FoundAs (Some ts) o = (d : Data) × (o ≡ Some d) × Begins ts d

found_as : (r : Option (List Token)) (o : Option json.Json) (after : Option Data) → find.Finds r o → Agrees o None after → FoundAs r after
found_as None None after h a = a
found_as None (Some j) after h a = absurd cc
found_as (Some ts) None after h a = let never = h.1 in absurd cc
found_as (Some ts) (Some j) after h a =
    let is = h.1 in
    let same : h.0 ≡ j = cc in
    (a.0, a.2, record { json = j; begins = subst (BeginsWith ts) same h.2; is = a.1 })

pub get_found : (name : List ℕ) (r : Option (List Token)) (ts : List Token) (d : Data) (b : Begins ts d) → find.Finds r (find.get name b.json) → FoundAs r (get name d)
get_found name r ts d b h = found_as r (find.get name b.json) (get name d) h (get_agrees name b.json d b.is)

pub seen_found : (r : Option (List Token)) (o : Option Data) → FoundAs r o → option_map value_at r ≡ o
seen_found None o f = sym f
seen_found (Some ts) o f = ap Some (value_at-Begins ts f.0 f.2) ∙ sym f.1

pub begins_found : (ts : List Token) (o : Option Data) → FoundAs (Some ts) o → Begins ts (value_at ts)
begins_found ts o f = subst (Begins ts) (sym (value_at-Begins ts f.0 f.2)) f.2

-- ---- going on in an array

abbrev pub TakenAs : Option (List Token) → Items → List Token → Type 0
TakenAs None ds new = ds ≡ no_items
TakenAs (Some ts) ds new = (d : Data) × (rest : Items) × (ds ≡ item d rest) × Begins ts d × Holds new rest

taken_as : (r : Option (List Token)) (new : List Token) (js : json.Items) (ds : Items) → of_items js ≡ Some ds
    → MatchOption r (js ≡ json.no_items) (λ ts. (j : json.Json) × (rest : json.Items) × (js ≡ json.item j rest) × BeginsWith ts j × InItems new rest) → TakenAs r ds new
taken_as None new json.no_items ds e h = cc
taken_as None new (json.item j js) ds e h = absurd cc
taken_as (Some ts) new json.no_items ds e h = let never = h.2 in absurd cc
taken_as (Some ts) new (json.item j js) ds e h =
    let is = h.2 in
    let first : h.0 ≡ j = cc in
    let others : h.1 ≡ js = cc in
    let a = then_some (λ d. option_map (item d) (of_items js)) (of_json j) ds e in
    let b = made (item a.0) (of_items js) ds a.2 in
    (a.0, b.0, b.2, record { json = j; begins = subst (BeginsWith ts) first h.3; is = a.1 }, record { json = js; inside = subst (InItems new) others h.4; is = b.1 })

pub item_taken : (r : Option (List Token)) (old new : List Token) (ds : Items) → Holds old ds → find.NextItem old r new → TakenAs r ds new
item_taken r old new ds h next = taken_as r new h.json ds h.is (next h.json h.inside)

pub begins_taken : (ts : List Token) (ds : Items) (new : List Token) → TakenAs (Some ts) ds new → Begins ts (value_at ts)
begins_taken ts ds new t = subst (Begins ts) (sym (value_at-Begins ts t.0 t.3)) t.3

-- the same tokens, as a function sees them
pub holds_after : (r : Option (List Token)) (old new : List Token) → Holds old (elements_at old) → TakenAs r (elements_at old) new → IfNone r (new ≡ old) → Holds new (elements_at new)
holds_after None old new h t stays = subst (λ ts. Holds ts (elements_at ts)) (sym stays) h
holds_after (Some ts) old new h t stays = subst (Holds new) (sym (elements-Holds new t.1 t.4)) t.4

pub seen_taken : (r : Option (List Token)) (old new : List Token) → TakenAs r (elements_at old) new → MatchOption r (elements_at old ≡ no_items) (λ v. elements_at old ≡ item (value_at v) (elements_at new))
seen_taken None old new t = t
seen_taken (Some ts) old new t = t.2 ∙ ap (λ d. item d t.1) (sym (value_at-Begins ts t.0 t.3)) ∙ ap (item (value_at ts)) (sym (elements-Holds new t.1 t.4))

-- ---- the elements of a value

abbrev pub OpensAs : Option (List Token) → Option Items → Type 0
OpensAs None o = o ≡ None
OpensAs (Some ts) o = (ds : Items) × (o ≡ Some ds) × Holds ts ds

opens_as : (r : Option (List Token)) (j : json.Json) (d : Data) → of_json j ≡ Some d
    → MatchOption r (find.as_array j ≡ None) (λ rest. (js : json.Items) × (j ≡ json.array js) × InItems rest js) → OpensAs r (as_array d)
opens_as None j d e h = no_array j d e h
opens_as (Some ts) j d e h =
    let a = array_holds h.0 ts d (ap of_json (sym h.1) ∙ e) h.2 in
    (a.0, ap as_array a.2, a.1)

pub elements_opened : (r : Option (List Token)) (ts : List Token) (d : Data) (b : Begins ts d) → MatchOption r (find.as_array b.json ≡ None) (λ rest. (js : json.Items) × (b.json ≡ json.array js) × InItems rest js) → OpensAs r (as_array d)
elements_opened r ts d b h = opens_as r b.json d b.is h

pub holds_opened : (ts : List Token) (o : Option Items) → OpensAs (Some ts) o → Holds ts (elements_at ts)
holds_opened ts o h = subst (Holds ts) (sym (elements-Holds ts h.0 h.2)) h.2

pub seen_opened : (r : Option (List Token)) (o : Option Items) → OpensAs r o → option_map elements_at r ≡ o
seen_opened None o h = sym h
seen_opened (Some ts) o h = ap Some (elements-Holds ts h.0 h.2) ∙ sym h.1

-- ---- leaves

pub text_seen : (r : Option (List ℕ)) (ts : List Token) (d : Data) (b : Begins ts d) → r ≡ find.as_str b.json → r ≡ as_str d
text_seen r ts d b e = e ∙ text_of b.json d b.is

is_object_when : (r : Option (List Token)) (j : json.Json) → MatchOption r (find.as_object j ≡ None) (λ rest. (ms : json.Members) × (j ≡ json.object ms) × find.InMembers rest ms) → is_some r ≡ is_some (find.as_object j)
is_object_when None j h = sym (ap is_some h)
is_object_when (Some ts) j h = sym (ap (λ k. is_some (find.as_object k)) h.1)

pub object_seen : (r : Option (List Token)) (ts : List Token) (d : Data) (b : Begins ts d) → MatchOption r (find.as_object b.json ≡ None) (λ rest. (ms : json.Members) × (b.json ≡ json.object ms) × find.InMembers rest ms) → is_some r ≡ is_some (as_object d)
object_seen r ts d b h = is_object_when r b.json h ∙ object_of b.json d b.is

pub whole_seen : (r : Option (List ℕ)) (ts : List Token) (d : Data) (b : Begins ts d) → r ≡ find.as_number b.json → option_and_then (λ s. option_and_then as_u64 (number_of s)) r ≡ option_and_then as_u64 (as_number d)
whole_seen r ts d b e = ap (option_and_then (λ s. option_and_then as_u64 (number_of s))) e ∙ whole_of b.json d b.is

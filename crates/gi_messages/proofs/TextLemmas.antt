-- When a text is one that is read, from its tokens.
use Rattle.std.proofs.Common.{◌≡◌, ℕ, zero, suc, ◌+◌, ◌<◌, ◌≤◌, List, [], ◌∷◌, ◌++◌, length, map, drop, get_or, drop-cons, add-one, true, false, cond, Option, Some, None, IsSome, option_map, option_and_then, is_some, refl, sym, ap, ◌∙◌, subst, arith, append_assoc, append-nil}
use Rattle.std.specs.Prelude.{unwrap_or}
use Rattle.json.specs.Token.{Token}
use Rattle.json.specs.Json as json
use Rattle.json.specs.Json.{if_last, document}
use Rattle.json.specs.Lex.{tokens}
use Rattle.json.specs.Tree as tree
use Rattle.json.specs.Tree.{json_tokens, items_tokens, members_tokens}
use Rattle.json.proofs.Nesting.{value-depth}
use Rattle.json.proofs.Printed.Trees.{value-json_tokens}
use Rattle.json.proofs.Unique.Spelling.{value-json_tokens_back, tokens-document}
use Rattle.serde_json.specs.Data.{Data, Num, null, boolean, number, string, array, object, no_items, item, Members, no_members, put}
use Rattle.serde_json.specs.Read.{of_json, of_items, of_members, number_of, max_depth, read}
use Rattle.json.specs.Tape.{node_token}
use Rattle.json.specs.declared.tape.Node.{Node}
use Rattle.std.proofs.lemmas.List.{drop_all}
use Rattle.gi_messages.specs.Tokens.{value_at, after, is_sound, Begins}
use Rattle.gi_messages.proofs.TokenLemmas.{value_at-Begins}

-- there is one
abbrev Is : {A : Type 0} → Option A → Type 0
Is {A} o = (x : A) × (o ≡ Some x)

Is-map : {A B : Type 0} (f : A → B) (o : Option A) → Is o → Is (option_map f o)
Is-map f o h = (f h.0, ap (option_map f) h.1)

map-Is : {A B : Type 0} (f : A → B) (o : Option A) → Is (option_map f o) → Is o
map-Is f None h = let never = h.1 in absurd cc
map-Is f (Some a) h = (a, refl)

then-Is : {A B : Type 0} (f : A → Option B) (o : Option A) → Is (option_and_then f o) → (a : A) × (o ≡ Some a) × Is (f a)
then-Is f None h = let never = h.1 in absurd cc
then-Is f (Some a) h = (a, refl, h)

number_sound : (o : Option Num) (d : ℕ) (ts : List Token) → unwrap_or (option_map (is_sound ts) (cond (is_some o) (Some d) None)) false ≡ true → Is o × (is_sound ts d ≡ true)
number_sound None d ts e = absurd cc
number_sound (Some n) d ts e = ((n, refl), e)

-- ---- what is sound is read

abbrev Sound : ℕ → ℕ → Type 0 → List Token → ℕ → Type 0
Sound depth d Read rest then = (depth ≤ d) × Read × (is_sound rest then ≡ true)

mutual
  unfolding is_sound

  sound_value : (j : json.Json) (d : ℕ) (rest : List Token) → is_sound (json_tokens j ++ rest) d ≡ true → Sound (tree.depth j) d (Is (of_json j)) rest d
  sound_value json.null d rest e = (omega arith, (null, refl), e)
  sound_value (json.boolean b) d rest e = (omega arith, (boolean b, refl), e)
  sound_value (json.number s) d rest e = let n = number_sound (number_of s) d rest e in (omega arith, Is-map number (number_of s) n.0, n.1)
  sound_value (json.string s) d rest e = (omega arith, (string s, refl), e)
  sound_value (json.array js) zero rest e = absurd cc
  sound_value (json.array js) (suc d) rest e = let h = sound_items js d rest e in (omega (arith, h.0), Is-map array (of_items js) h.1, h.2)
  sound_value (json.object ms) zero rest e = absurd cc
  sound_value (json.object ms) (suc d) rest e = let h = sound_members ms no_members d rest e in (omega (arith, h.0), Is-map object (of_members ms no_members) h.1, h.2)

  sound_items : (js : json.Items) (d : ℕ) (rest : List Token) → is_sound (items_tokens js ++ rest) d ≡ true → Sound (tree.items_depth js) d (Is (of_items js)) rest (suc d)
  sound_items json.no_items d rest e = (omega arith, (no_items, refl), e)
  sound_items (json.item j js) d rest e =
      let first = sound_value j d (items_tokens js ++ rest) (ap (λ ts. is_sound ts d) (sym (append_assoc (json_tokens j) (items_tokens js) rest)) ∙ e) in
      let more = sound_items js d rest first.2 in
      let both = Is-map (item first.1.0) (of_items js) more.1 in
      (omega (arith, first.0, more.0), (both.0, ap (option_and_then (λ x. option_map (item x) (of_items js))) first.1.1 ∙ both.1), more.2)

  sound_members : (ms : json.Members) (found : Members) (d : ℕ) (rest : List Token) → is_sound (members_tokens ms ++ rest) d ≡ true → Sound (tree.members_depth ms) d (Is (of_members ms found)) rest (suc d)
  sound_members json.no_members found d rest e = (omega arith, (found, refl), e)
  sound_members (json.member k j ms) found d rest e =
      let first = sound_value j d (members_tokens ms ++ rest) (ap (λ ts. is_sound ts d) (sym (append_assoc (json_tokens j) (members_tokens ms) rest)) ∙ e) in
      let more = sound_members ms (put k first.1.0 found) d rest first.2 in
      (omega (arith, first.0, more.0), (more.1.0, ap (option_and_then (λ x. of_members ms (put k x found))) first.1.1 ∙ more.1.1), more.2)

-- ---- what is read is sound

mutual
  unfolding is_sound

  value_sound : (j : json.Json) (d : ℕ) (rest : List Token) → tree.depth j ≤ d → Is (of_json j) → is_sound rest d ≡ true → is_sound (json_tokens j ++ rest) d ≡ true
  value_sound json.null d rest h r e = e
  value_sound (json.boolean b) d rest h r e = e
  value_sound (json.number s) d rest h r e = let n = map-Is number (number_of s) r in ap (λ o. unwrap_or (option_map (is_sound rest) (cond (is_some o) (Some d) None)) false) n.1 ∙ e
  value_sound (json.string s) d rest h r e = e
  value_sound (json.array js) zero rest h r e = absurd (omega arith)
  value_sound (json.array js) (suc d) rest h r e = items_sound js d rest (omega arith) (map-Is array (of_items js) r) e
  value_sound (json.object ms) zero rest h r e = absurd (omega arith)
  value_sound (json.object ms) (suc d) rest h r e = members_sound ms no_members d rest (omega arith) (map-Is object (of_members ms no_members) r) e

  items_sound : (js : json.Items) (d : ℕ) (rest : List Token) → tree.items_depth js ≤ d → Is (of_items js) → is_sound rest (suc d) ≡ true → is_sound (items_tokens js ++ rest) d ≡ true
  items_sound json.no_items d rest h r e = e
  items_sound (json.item j js) d rest h r e =
      let first = then-Is (λ x. option_map (item x) (of_items js)) (of_json j) r in
      let more = items_sound js d rest (omega arith) (map-Is (item first.0) (of_items js) first.2) e in
      ap (λ ts. is_sound ts d) (append_assoc (json_tokens j) (items_tokens js) rest) ∙ value_sound j d (items_tokens js ++ rest) (omega arith) (first.0, first.1) more

  members_sound : (ms : json.Members) (found : Members) (d : ℕ) (rest : List Token) → tree.members_depth ms ≤ d → Is (of_members ms found) → is_sound rest (suc d) ≡ true → is_sound (members_tokens ms ++ rest) d ≡ true
  members_sound json.no_members found d rest h r e = e
  members_sound (json.member k j ms) found d rest h r e =
      let first = then-Is (λ x. of_members ms (put k x found)) (of_json j) r in
      let more = members_sound ms (put k first.0 found) d rest (omega arith) first.2 e in
      ap (λ ts. is_sound ts d) (append_assoc (json_tokens j) (members_tokens ms) rest) ∙ value_sound j d (members_tokens ms ++ rest) (omega arith) (first.0, first.1) more

-- ---- a whole text

abbrev IsWhole : List ℕ → Type 0
IsWhole text = (d : Data) × (read text ≡ Some d) × Begins (tokens text) d

document_sound : (text : List ℕ) (j : json.Json) → document text ≡ Some j → is_sound (tokens text) max_depth ≡ true → IsWhole text
document_sound text j e sound =
    let whole : tokens text ≡ json_tokens j ++ [] = tokens-document text j e ∙ sym (append-nil (json_tokens j)) in
    let h = sound_value j max_depth [] (ap (λ ts. is_sound ts max_depth) (sym whole) ∙ sound) in
    let value : json.value max_depth (tokens text) ≡ Some (j, []) = ap (json.value max_depth) whole ∙ value-json_tokens j max_depth [] h.0 in
    (h.1.0, ap (λ o. option_and_then of_json (option_and_then (λ p. if_last p.0 p.1) o)) value ∙ h.1.1, record { json = j; begins = (max_depth, [], value); is = h.1.1 })

sound_at : (text : List ℕ) (o : Option json.Json) → document text ≡ o → IsSome o → is_sound (tokens text) max_depth ≡ true → IsWhole text
sound_at text None e some sound = absurd cc
sound_at text (Some j) e some sound = document_sound text j e sound

pub read_sound : (text : List ℕ) → IsSome (document text) → is_sound (tokens text) max_depth ≡ true → IsWhole text
read_sound text some sound = sound_at text (document text) refl some sound

pub begins_read : (text : List ℕ) → IsWhole text → Begins (tokens text) (value_at (tokens text))
begins_read text w = subst (Begins (tokens text)) (sym (value_at-Begins (tokens text) w.0 w.2)) w.2

pub value_read : (text : List ℕ) → IsWhole text → read text ≡ Some (value_at (tokens text))
value_read text w = w.1 ∙ ap Some (sym (value_at-Begins (tokens text) w.0 w.2))

abbrev whole_of : Option (json.Json × List Token) → Option Data
whole_of o = option_and_then of_json (option_and_then (λ p. if_last p.0 p.1) o)

module _ (text : List ℕ) where
  unsound_at : (o : Option (json.Json × List Token)) (x : Option Data) → json.value max_depth (tokens text) ≡ o → whole_of o ≡ x → is_sound (tokens text) max_depth ≡ false → x ≡ None
  unfolding is_sound
  unsound_at o None at is e = refl
  unsound_at None (Some x) at is e = absurd cc
  unsound_at (Some (i, t ∷ r)) (Some x) at is e = absurd cc
  unsound_at (Some (i, [])) (Some x) at is e =
      let sound = value_sound i max_depth [] (value-depth max_depth (tokens text) [] i at) (x, is) refl in
      let same = ap (λ ts. is_sound ts max_depth) (value-json_tokens_back max_depth (tokens text) [] i at) in
      absurd cc

  pub read_unsound : is_sound (tokens text) max_depth ≡ false → read text ≡ None
  read_unsound e = unsound_at (json.value max_depth (tokens text)) (read text) refl refl e

  invalid_at : (o : Option (json.Json × List Token)) → json.value max_depth (tokens text) ≡ o → document text ≡ None → whole_of o ≡ None
  invalid_at None at e = refl
  invalid_at (Some (i, t ∷ r)) at e = refl
  invalid_at (Some (i, [])) at e =
      let back = value-json_tokens_back max_depth (tokens text) [] i at in
      let shallow = value-depth max_depth (tokens text) [] i at in
      let value = ap (json.value json.max_depth) back ∙ value-json_tokens i json.max_depth [] (omega (arith, shallow)) in
      let found = ap (option_and_then (λ p. if_last p.0 p.1)) value in
      absurd cc

  pub read_invalid : document text ≡ None → read text ≡ None
  read_invalid e = invalid_at (json.value max_depth (tokens text)) refl e

-- ---- the walk over the nodes of a tape

-- what was found of the nodes before, and how many may be open
pub record Walked (nodes : List Node) (i more : ℕ) : Type 0 where
  pub few : more ≤ max_depth + i
  pub left : is_sound (map node_token nodes) max_depth ≡ is_sound (map node_token (drop i nodes)) more

node_next : (nodes : List Node) (i : ℕ) (d : Node) → i < length nodes → map node_token (drop i nodes) ≡ node_token (get_or nodes i d) ∷ map node_token (drop (i + 1) nodes)
node_next nodes i d below = ap (map node_token) (drop-cons nodes i d below) ∙ ap (λ j. node_token (get_or nodes i d) ∷ map node_token (drop j nodes)) (sym (add-one i))

module _ (nodes : List Node) (i more : ℕ) (d : Node) (below : i < length nodes) (w : Walked nodes i more) where
  pub walk_goes_on : (next : ℕ) → after (node_token (get_or nodes i d)) more ≡ Some next → next ≤ more + 1 → Walked nodes (i + 1) next
  unfolding is_sound
  walk_goes_on next e within = record {
    few = omega (arith, w.few);
    left = w.left ∙ ap (λ ts. is_sound ts more) (node_next nodes i d below) ∙ ap (λ o. unwrap_or (option_map (is_sound (map node_token (drop (i + 1) nodes))) o) false) e;
  }

  pub walk_fails : after (node_token (get_or nodes i d)) more ≡ None → is_sound (map node_token nodes) max_depth ≡ false
  unfolding is_sound
  walk_fails e = w.left ∙ ap (λ ts. is_sound ts more) (node_next nodes i d below) ∙ ap (λ o. unwrap_or (option_map (is_sound (map node_token (drop (i + 1) nodes))) o) false) e

pub walk_ends : (nodes : List Node) (i more : ℕ) → length nodes ≤ i → Walked nodes i more → is_sound (map node_token nodes) max_depth ≡ true
unfolding is_sound
walk_ends nodes i more past w = w.left ∙ ap (λ ns. is_sound (map node_token ns) more) (drop_all i nodes past)

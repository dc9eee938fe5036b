-- A value without floats and with its members in order reads back from its compact text.
use Rattle.std.proofs.Common.{◌≡◌, ℕ, suc, ◌^◌, ◌<◌, ◌≤◌, max, List, [], ◌∷◌, ◌++◌, Bool, true, false, Option, Some, option_map, option_and_then, decimal, IsUtf8, refl, sym, ap, ap₂, ◌∙◌, append-nil}
use Rattle.std.specs.Prelude.{⊤}
use Rattle.std.proofs.lemmas.Str.{IsUtf8-append, IsUtf8-from_ascii}
use Rattle.std.proofs.lemmas.Fmt.{IsAscii-decimal}
use Rattle.json.specs.Json as json
use Rattle.json.specs.Lex.{tokens}
use Rattle.json.specs.Token.{Token}
use Rattle.json.specs.Print.{quoted}
use Rattle.json.specs.Tree as tree
use Rattle.json.proofs.Printed.Decimals.{IsNumber-decimal}
use Rattle.json.proofs.Printed.Tokens.{tokens-print}
use Rattle.json.proofs.Printed.Trees.{value-json_tokens, ArePrintable-json_tokens}
use Rattle.json.proofs.Printed.Utf8.{IsUtf8-are_ascii, IsUtf8-quoted, IsUtf8-boolean, are_ascii}
use Rattle.serde_json.specs.Data.{Num, unsigned, negative, float, Data, null, boolean, number, string, array, object, Items, no_items, item, Members, no_members, member, put, depth, items_depth, members_depth}
use Rattle.serde_json.specs.Read.{read, max_depth, of_json, of_items, of_members}
use Rattle.serde_json.specs.Written.{outline, items_outline, members_outline, has_float, items_have_float, members_have_float, comma_if, compact_text, items_text, members_text}
use Rattle.serde_json.proofs.Numbers.{number_of-decimal}
use Rattle.serde_json.proofs.Texts.{print-outline}
use Rattle.gi_messages.specs.Json.{json_of}
use Rattle.gi_messages.proofs.JsonLemmas.{json_of-text}

-- the members, put one after another into those found before
abbrev pub put_all : Members → Members → Members
put_all no_members found = found
put_all (member k d ms) found = put_all ms (put k d found)

abbrev pub IsWhole : Num → Type 0
IsWhole (unsigned n) = n < 2 ^ 64
IsWhole (negative z) = ⊥
IsWhole (float x) = ⊥

-- Numbers are whole, texts are UTF-8, and the members of each object are in order.
abbrev mutual
  pub IsPlain : Data → Type 0
  IsPlain null = ⊤
  IsPlain (boolean b) = ⊤
  IsPlain (number n) = IsWhole n
  IsPlain (string s) = IsUtf8 s
  IsPlain (array ds) = ArePlainItems ds
  IsPlain (object ms) = ArePlainMembers ms × (put_all ms no_members ≡ ms)

  pub ArePlainItems : Items → Type 0
  ArePlainItems no_items = ⊤
  ArePlainItems (item d ds) = IsPlain d × ArePlainItems ds

  pub ArePlainMembers : Members → Type 0
  ArePlainMembers no_members = ⊤
  ArePlainMembers (member k d ms) = IsUtf8 k × IsPlain d × ArePlainMembers ms

mutual
  of_json-outline : (d : Data) → IsPlain d → of_json (outline d) ≡ Some d
  of_json-outline null h = refl
  of_json-outline (boolean b) h = refl
  of_json-outline (number (unsigned n)) h = ap (option_map number) (number_of-decimal n h)
  of_json-outline (number (negative z)) h = absurd h
  of_json-outline (number (float x)) h = absurd h
  of_json-outline (string s) h = refl
  of_json-outline (array ds) h = ap (option_map array) (of_items-outline ds h)
  of_json-outline (object ms) h = ap (option_map object) (of_members-outline ms no_members h.0 ∙ ap Some h.1)

  of_items-outline : (ds : Items) → ArePlainItems ds → of_items (items_outline ds) ≡ Some ds
  of_items-outline no_items h = refl
  of_items-outline (item d ds) h = rw (of_json-outline d h.0, of_items-outline ds h.1) refl

  of_members-outline : (ms found : Members) → ArePlainMembers ms → of_members (members_outline ms) found ≡ Some (put_all ms found)
  of_members-outline no_members found h = refl
  of_members-outline (member k d ms) found h = rw (of_json-outline d h.1) (of_members-outline ms (put k d found) h.2)

mutual
  HasNumbers-outline : (d : Data) → IsPlain d → tree.HasNumbers (outline d)
  HasNumbers-outline null h = tt
  HasNumbers-outline (boolean b) h = tt
  HasNumbers-outline (number (unsigned n)) h = IsNumber-decimal n h
  HasNumbers-outline (number (negative z)) h = absurd h
  HasNumbers-outline (number (float x)) h = absurd h
  HasNumbers-outline (string s) h = tt
  HasNumbers-outline (array ds) h = items_have_numbers ds h
  HasNumbers-outline (object ms) h = members_have_numbers ms h.0

  items_have_numbers : (ds : Items) → ArePlainItems ds → tree.ItemsHaveNumbers (items_outline ds)
  items_have_numbers no_items h = tt
  items_have_numbers (item d ds) h = (HasNumbers-outline d h.0, items_have_numbers ds h.1)

  members_have_numbers : (ms : Members) → ArePlainMembers ms → tree.MembersHaveNumbers (members_outline ms)
  members_have_numbers no_members h = tt
  members_have_numbers (member k d ms) h = (HasNumbers-outline d h.1, members_have_numbers ms h.2)

mutual
  depth-outline : (d : Data) → tree.depth (outline d) ≡ depth d
  depth-outline null = refl
  depth-outline (boolean b) = refl
  depth-outline (number n) = refl
  depth-outline (string s) = refl
  depth-outline (array ds) = ap suc (items_depth-outline ds)
  depth-outline (object ms) = ap suc (members_depth-outline ms)

  items_depth-outline : (ds : Items) → tree.items_depth (items_outline ds) ≡ items_depth ds
  items_depth-outline no_items = refl
  items_depth-outline (item d ds) = ap₂ max (depth-outline d) (items_depth-outline ds)

  members_depth-outline : (ms : Members) → tree.members_depth (members_outline ms) ≡ members_depth ms
  members_depth-outline no_members = refl
  members_depth-outline (member k d ms) = ap₂ max (depth-outline d) (members_depth-outline ms)

mutual
  pub has_float-IsPlain : (d : Data) → IsPlain d → has_float d ≡ false
  has_float-IsPlain null h = refl
  has_float-IsPlain (boolean b) h = refl
  has_float-IsPlain (number (unsigned n)) h = refl
  has_float-IsPlain (number (negative z)) h = absurd h
  has_float-IsPlain (number (float x)) h = absurd h
  has_float-IsPlain (string s) h = refl
  has_float-IsPlain (array ds) h = items_have_no_float ds h
  has_float-IsPlain (object ms) h = members_have_no_float ms h.0

  items_have_no_float : (ds : Items) → ArePlainItems ds → items_have_float ds ≡ false
  items_have_no_float no_items h = refl
  items_have_no_float (item d ds) h = rw (has_float-IsPlain d h.0) (items_have_no_float ds h.1)

  members_have_no_float : (ms : Members) → ArePlainMembers ms → members_have_float ms ≡ false
  members_have_no_float no_members h = refl
  members_have_no_float (member k d ms) h = rw (has_float-IsPlain d h.1) (members_have_no_float ms h.2)

ascii_then : (x : ℕ) (xs : List ℕ) → are_ascii (x ∷ []) ≡ true → IsUtf8 xs → IsUtf8 (x ∷ xs)
ascii_then x xs small rest = IsUtf8-append (x ∷ []) xs (IsUtf8-are_ascii (x ∷ []) small) rest

comma_then : (later : Bool) (xs : List ℕ) → IsUtf8 xs → IsUtf8 (comma_if later ++ xs)
comma_then true xs rest = ascii_then 44 xs refl rest
comma_then false xs rest = rest

null_ascii : IsUtf8 (compact_text null)
null_ascii = IsUtf8-are_ascii (compact_text null) refl

mutual
  pub IsUtf8-compact_text : (d : Data) → IsPlain d → IsUtf8 (compact_text d)
  IsUtf8-compact_text null h = null_ascii
  IsUtf8-compact_text (boolean b) h = IsUtf8-boolean b
  IsUtf8-compact_text (number (unsigned n)) h = IsUtf8-from_ascii (decimal n) (IsAscii-decimal n h)
  IsUtf8-compact_text (number (negative z)) h = absurd h
  IsUtf8-compact_text (number (float x)) h = absurd h
  IsUtf8-compact_text (string s) h = IsUtf8-quoted s h
  IsUtf8-compact_text (array ds) h = ascii_then 91 (items_text false ds) refl (IsUtf8-items_text false ds h)
  IsUtf8-compact_text (object ms) h = ascii_then 123 (members_text false ms) refl (IsUtf8-members_text false ms h.0)

  IsUtf8-items_text : (later : Bool) (ds : Items) → ArePlainItems ds → IsUtf8 (items_text later ds)
  IsUtf8-items_text later no_items h = IsUtf8-are_ascii (93 ∷ []) refl
  IsUtf8-items_text later (item d ds) h =
      comma_then later (compact_text d ++ items_text true ds) (IsUtf8-append (compact_text d) (items_text true ds) (IsUtf8-compact_text d h.0) (IsUtf8-items_text true ds h.1))

  IsUtf8-members_text : (later : Bool) (ms : Members) → ArePlainMembers ms → IsUtf8 (members_text later ms)
  IsUtf8-members_text later no_members h = IsUtf8-are_ascii (125 ∷ []) refl
  IsUtf8-members_text later (member k d ms) h =
      let rest = IsUtf8-append (compact_text d) (members_text true ms) (IsUtf8-compact_text d h.1) (IsUtf8-members_text true ms h.2) in
      comma_then later (quoted k ++ 58 ∷ (compact_text d ++ members_text true ms)) (IsUtf8-append (quoted k) (58 ∷ (compact_text d ++ members_text true ms)) (IsUtf8-quoted k h.0) (ascii_then 58 (compact_text d ++ members_text true ms) refl rest))

-- the value that the tokens of a whole text are
abbrev whole : Option (json.Json × List Token) → Option Data
whole o = option_and_then of_json (option_and_then (λ p. json.if_last p.0 p.1) o)

tokens-compact_text : (d : Data) → IsPlain d → tokens (compact_text d) ≡ tree.json_tokens (outline d)
tokens-compact_text d h =
    ap tokens (sym (print-outline d)) ∙ tokens-print (tree.json_tokens (outline d)) (ArePrintable-json_tokens (outline d) (HasNumbers-outline d h))

pub json_of-compact_text : (d : Data) → IsPlain d → depth d ≤ max_depth → json_of (compact_text d) ≡ Some d
json_of-compact_text d h shallow =
    let written : tokens (compact_text d) ≡ tree.json_tokens (outline d) ++ [] = tokens-compact_text d h ∙ sym (append-nil (tree.json_tokens (outline d))) in
    let shallow' : tree.depth (outline d) ≤ max_depth = rw (depth-outline d) shallow in
    let reads : read (compact_text d) ≡ Some d = ap (λ ts. whole (json.value max_depth ts)) written ∙ ap whole (value-json_tokens (outline d) max_depth [] shallow') ∙ of_json-outline d h in
    json_of-text (compact_text d) d (IsUtf8-compact_text d h) reads

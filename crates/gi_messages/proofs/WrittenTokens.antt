-- The tokens of what is written, and their text.
use Rattle.std.proofs.Common.{◌≡◌, ℕ, ◌≤◌, Bool, true, false, cond, ◌==◌, List, [], ◌∷◌, ◌++◌, length, map, take, Result, Ok, Err, refl, sym, ap, ◌∙◌, subst, append_assoc}
use Rattle.std.proofs.lemmas.List.{take_all}
use Rattle.std.specs.Prelude.{IfOk}
use Rattle.std.specs.List.{flat_map}
use Rattle.json.specs.Print.{print}
use Rattle.json.specs.Token.{Token}
use Rattle.json.specs.Tree.{items_tokens, members_tokens}
use Rattle.json.specs.Written.{Written, Writes}
use Rattle.serde_json.specs.Data.{Data, array, Members, member}
use Rattle.serde_json.specs.View.{items_of}
use Rattle.serde_json.specs.Written.{items_outline, members_outline, compact_text}
use Rattle.serde_json.proofs.Texts.{print-outline}
use Rattle.gi_messages.specs.Adding.{Added, Adds, member_tokens, part_tokens, tokens_of}
use Rattle.gi_messages.specs.Key.{key_text}
use Rattle.gi_messages.specs.Writing.{part_members, whole}
use Rattle.gi_messages.specs.declared.key.Key.TheVariants as keys

-- ---- one after the other

-- a token that was written
pub wrote : {E : Type 0} {u : Unit {0}} {a b : Written} {t : Token} → Writes {E = E} (Ok u) a b t → Added a b (t ∷ [])
wrote h = record { before = h.room.0; tokens = h.ok }

pub after : {a b c : Written} {xs ys : List Token} → Added a b xs → Added b c ys → Added a c (xs ++ ys)
after {a = a} {xs = xs} {ys = ys} h k = record { before = k.before ∙ h.before; tokens = k.tokens ∙ (ap (λ ts. ts ++ ys) h.tokens ∙ append_assoc a.tokens xs ys) }

-- a last token
pub closed : {E : Type 0} {r : Result (Unit {0}) E} {a b c : Written} {xs : List Token} {t : Token} → Added a b xs → Writes r b c t → IfOk r (λ _. Added a c (xs ++ t ∷ []))
closed {r = Ok u} h k = after h (wrote k)
closed {r = Err e} h k = tt

-- a last value
pub followed : {E : Type 0} {a b : Written} {xs : List Token} (r : Result (Unit {0}) E) (c : Written) (ys : List Token) → Added a b xs → IfOk r (λ _. Added b c ys) → IfOk r (λ _. Added a c (xs ++ ys))
followed (Ok u) c ys h k = after h k
followed (Err e) c ys h k = tt

-- the last of several tokens
pub ended : {E : Type 0} {r : Result (Unit {0}) E} {b c : Written} {t : Token} → Writes r b c t → IfOk r (λ _. Added b c (t ∷ []))
ended {r = Ok u} k = wrote k
ended {r = Err e} k = tt

-- ---- arrays

-- the tokens of the elements
abbrev pub each_of : {X : Type 0} → (X → Data) → List X → List Token
each_of f xs = flat_map (λ x. tokens_of (f x)) xs

-- the tokens of an array are those of its elements, one after the other
pub items_are : {X : Type 0} (f : X → Data) (xs : List X) → items_tokens (items_outline (items_of (map f xs))) ≡ each_of f xs ++ Token.end_array ∷ []
items_are f [] = refl
items_are f (x ∷ xs) = ap (λ ts. tokens_of (f x) ++ ts) (items_are f xs) ∙ sym (append_assoc (tokens_of (f x)) (each_of f xs) (Token.end_array ∷ []))

-- an array whose elements were all added
pub array_closed : {E : Type 0} {X : Type 0} {a b : Written} {r : Result (Unit {0}) E} {c : Written} (f : X → Data) (xs : List X) (i : ℕ) → length xs ≤ i → Added a b (Token.begin_array ∷ each_of f (take i xs)) → Writes r b c Token.end_array → Adds r a c (array (items_of (map f xs)))
array_closed {a = a} {r = r} {c = c} f xs i past each last =
    let all = rw (take_all i xs past) at each in
    subst (λ (ts : List Token). IfOk r (λ _. Added a c (Token.begin_array ∷ ts))) (sym (items_are f xs)) (closed all last)

-- ---- which part it is

-- the tokens of the members that are written or not, and of those that follow
part_tokens_by : (b : Bool) (parts part : ℕ) (rest : Members) → members_tokens (members_outline (cond b rest (member (key_text keys.Part) (whole part) (member (key_text keys.Parts) (whole parts) rest))))
    ≡ cond b [] (member_tokens keys.Part (whole part) ++ member_tokens keys.Parts (whole parts)) ++ members_tokens (members_outline rest)
part_tokens_by true parts part rest = refl
part_tokens_by false parts part rest = refl

-- which part it is and of how many, and then the other members
pub with_part : {E : Type 0} {a b : Written} (r : Result (Unit {0}) E) (c : Written) (parts part : ℕ) (rest : Members) → Added a b (part_tokens parts part) → IfOk r (λ _. Added b c (members_tokens (members_outline rest)))
    → IfOk r (λ _. Added a c (members_tokens (members_outline (part_members parts part rest))))
with_part {a = a} r c parts part rest h k =
    subst (λ (ts : List Token). IfOk r (λ _. Added a c ts)) (sym (part_tokens_by (parts == 1) parts part rest)) (followed r c (members_tokens (members_outline rest)) h k)

-- ---- the text

-- what is written for a value that was added to nothing
pub text_is : {a b : Written} (d : Data) → a.before ≡ [] → a.tokens ≡ [] → Added a b (tokens_of d) → b.before ++ print b.tokens ≡ compact_text d
text_is d before none h = rw (h.before, before, h.tokens, none) (print-outline d)

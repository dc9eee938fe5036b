-- What texts name.
use Rattle.std.proofs.Common.{◌≡◌, ℕ, List, length, Bool, true, false, cond, ◌&&◌, nat_le, Some, None, Result, Ok, Err, refl, sym, ap, ◌∙◌, leb-true, le-leb}
use Rattle.std.specs.List.{list_all}
use Rattle.std.specs.Result.{OkIff, result_ok}
use Rattle.std.proofs.lemmas.Bool.{and_parts, and_from}
use Rattle.std.specs.Str.{bytes_eq}
use Rattle.std.proofs.lemmas.Option.{same_Some}
use Rattle.std.proofs.lemmas.Slice.Eq.{bytes_eq-Decides}
use Rattle.std.proofs.lemmas.List.Sums.{AllPass-from_list_all, list_all-from_AllPass}
use Rattle.gi_pairs.specs.Code.{IsCode, is_character}
use Rattle.gi_pairs.specs.Direction.{direction_named, direction_text}
use Rattle.gi_pairs.specs.declared.direction.Direction.{Direction}
use Rattle.gi_pairs.specs.declared.direction.Direction.TheVariants.{IM, MI}
use Rattle.gi_messages.specs.Names.{is_code, code_of}

pub is_code-IsCode : (text : List ℕ) → IsCode text → is_code text ≡ true
is_code-IsCode text code =
    let long = and_from (nat_le 1 (length text)) (nat_le (length text) 16) (le-leb 1 (length text) code.some) (le-leb (length text) 16 code.short) in
    and_from (nat_le 1 (length text) && nat_le (length text) 16) (list_all is_character text) long (list_all-from_AllPass is_character text code.characters)

pub IsCode-is_code : (text : List ℕ) → is_code text ≡ true → IsCode text
IsCode-is_code text e =
    let all = and_parts (nat_le 1 (length text) && nat_le (length text) 16) (list_all is_character text) e in
    let long = and_parts (nat_le 1 (length text)) (nat_le (length text) 16) all.0 in
    record { some = leb-true 1 (length text) long.0; short = leb-true (length text) 16 long.1; characters = AllPass-from_list_all is_character text all.1 }

pub code_of-again : (text : List ℕ) → IsCode text → code_of text ≡ Some text
unfolding code_of
code_of-again text code = ap (λ b. cond b (Some text) None) (is_code-IsCode text code)

code_of_by : (text name : List ℕ) (b : Bool) → is_code text ≡ b → cond b (Some text) None ≡ Some name → IsCode text × (text ≡ name)
code_of_by text name true is e = (IsCode-is_code text is, cc)
code_of_by text name false is e = absurd cc

pub code_of-takes : (text name : List ℕ) → code_of text ≡ Some name → IsCode text × (text ≡ name)
unfolding code_of
code_of-takes text name e = code_of_by text name (is_code text) refl e

none_by : (text : List ℕ) (b : Bool) → is_code text ≡ b → (IsCode text → ⊥) → cond b (Some text) None ≡ None
none_by text true is never = absurd (never (IsCode-is_code text is))
none_by text false is never = refl

-- what `Code::read` answers
pub code_of-read : {E : Type 0} (text : List ℕ) (r : Result (List ℕ) E) → OkIff r (IsCode text) text → result_ok r ≡ code_of text
unfolding code_of
code_of-read text (Ok x) h = ap Some h.1 ∙ sym (code_of-again text h.0)
code_of-read text (Err e) h = sym (none_by text (is_code text) refl h)

-- ---- directions

direction_by : (text : List ℕ) (d : Direction) (im mi : Bool) → bytes_eq text (direction_text IM) ≡ im → bytes_eq text (direction_text MI) ≡ mi → cond im (Some IM) (cond mi (Some MI) None) ≡ Some d → text ≡ direction_text d
direction_by text d true mi im-is mi-is e = (bytes_eq-Decides text (direction_text IM)).0 im-is ∙ ap direction_text (same_Some IM d e)
direction_by text d false true im-is mi-is e = (bytes_eq-Decides text (direction_text MI)).0 mi-is ∙ ap direction_text (same_Some MI d e)
direction_by text d false false im-is mi-is e = absurd cc

pub direction_named-takes : (text : List ℕ) (d : Direction) → direction_named text ≡ Some d → text ≡ direction_text d
unfolding direction_named
direction_named-takes text d e = direction_by text d (bytes_eq text (direction_text IM)) (bytes_eq text (direction_text MI)) refl refl e

direction_named-text : (d : Direction) → direction_named (direction_text d) ≡ Some d
unfolding direction_named
direction_named-text IM = refl
direction_named-text MI = refl

pub direction_named-again : (text : List ℕ) (d : Direction) → text ≡ direction_text d → direction_named text ≡ Some d
direction_named-again text d is = ap direction_named is ∙ direction_named-text d

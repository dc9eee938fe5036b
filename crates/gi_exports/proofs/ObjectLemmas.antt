-- The line of an object that was begun, and whose members were added.
use Rattle.std.proofs.Common.{◌≡◌, ℕ, List, [], ◌∷◌, ◌++◌, ap, refl, sym, ◌∙◌, codes}
use Rattle.json.specs.Print.{print}
use Rattle.json.specs.Token.{Token}
use Rattle.json.specs.Written.{Written}
use Rattle.serde_json.specs.Data.{Data}
use Rattle.serde_json.proofs.Texts.{print-outline}
use Rattle.gi_messages.specs.Adding.{Added, tokens_of}
use Rattle.gi_exports.specs.Json.{IsBegun, line_of}

-- what was written, with the end of the object
abbrev pub with_end : Written → Written
with_end out = record out { tokens = out.tokens ++ Token.end_object ∷ [] }

pub last : (out : Written) → Added out (with_end out) (Token.end_object ∷ [])
last out = record { before = refl; tokens = refl }

pub object_more : {a b : Written} (d : Data) (text bytes : List ℕ) (ts : List Token) → IsBegun a text → Added a b ts → tokens_of d ≡ Token.begin_object ∷ ts
    → bytes ≡ b.before ++ (print b.tokens ++ codes "\n") → bytes ≡ text ++ line_of d
unfolding line_of
object_more {a = a} {b = b} d text bytes ts begun h same is =
    let tokens : b.tokens ≡ tokens_of d = h.tokens ∙ ap (λ (l : List Token). l ++ ts) begun.tokens ∙ sym same in
    is ∙ rw (h.before, begun.before, tokens) (ap (λ (l : List ℕ). text ++ (l ++ codes "\n")) (print-outline d))

-- When bytes are JSON text.
use Rattle.std.proofs.Common.{◌≡◌, ℕ, List, cond, Some, None, ap, ◌∙◌, inl, inr}
use Rattle.std.specs.Str.{IsUtf8, is_utf8}
use Rattle.std.proofs.lemmas.Bool.{cases_Bool}
use Rattle.std.proofs.lemmas.Str.{IsUtf8-from_is_utf8, is_utf8-from_IsUtf8}
use Rattle.serde_json.specs.Data.{Data}
use Rattle.serde_json.specs.Read.{read}
use Rattle.gi_messages.specs.Json.{json_of}

pub json_of-text : (bytes : List ℕ) (d : Data) → IsUtf8 bytes → read bytes ≡ Some d → json_of bytes ≡ Some d
unfolding json_of
json_of-text bytes d text is = ap (λ b. cond b (read bytes) None) (is_utf8-from_IsUtf8 bytes text) ∙ is

pub json_of-refused : (bytes : List ℕ) → (IsUtf8 bytes → read bytes ≡ None) → json_of bytes ≡ None
unfolding json_of
json_of-refused bytes refused =
    elim (cases_Bool (is_utf8 bytes)) [
      | inl holds ↦ ap (λ b. cond b (read bytes) None) holds ∙ refused (IsUtf8-from_is_utf8 bytes holds)
      | inr fails ↦ ap (λ b. cond b (read bytes) None) fails
    ]

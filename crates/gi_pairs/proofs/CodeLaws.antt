-- What is known of every code.
use Rattle.std.proofs.Common.{◌≡◌, ℕ, ◌<◌, List, ◌++◌, length, drop, get_or, replicate, Result, Ok, Err, IsOk, MatchResult, true, arith, rules, refl}
use Rattle.std.proofs.Math.Seq.{take-append_seam}
use Rattle.std.proofs.lemmas.Bool.Decides.{nat_tests}
use Rattle.std.proofs.lemmas.List.{drop-replicate}
use Rattle.std.proofs.lemmas.Str.Ascii.{IsAscii-from_all}
use Rattle.std.specs.Str.{IsAscii}
use Rattle.gi_pairs.specs.Code.{IsCode, CodeInvariant, is_character}

character-ascii : (c : ℕ) → is_character c ≡ true → c < 128
character-ascii c h = grind (arith, nat_tests)

-- a code is ASCII, and so text
pub code-ascii : (text : List ℕ) → IsCode text → IsAscii text
code-ascii text code = IsAscii-from_all text (λ k x at. character-ascii (get_or text k x) (code.characters k x at))

-- bytes that begin with a code and go on with zeros keep that code
pub kept_from : (text : List ℕ) → IsCode text → CodeInvariant (text ++ drop (length text) (replicate 16 0)) (length text)
kept_from text code =
    let first = take-append_seam text (drop (length text) (replicate 16 0)) in
    let rest = drop-replicate {X = ℕ} (length text) 16 0 in
    record { code = rw first code; exact = rw first refl; rest = rw (first, rest) refl }

-- an answer that is no error is an Ok
pub ok_from_cases : {T E : Type 0} (r : Result T E) (P : T → Type 0) (Q : E → Type 0) → MatchResult r P Q → ((e : E) → Q e → ⊥) → IsOk r
ok_from_cases (Ok x) P Q m never = search rules
ok_from_cases (Err e) P Q m never = absurd (never e m)

-- What is given of what is held.
use Rattle.std.proofs.Common.{if◌then◌else◌, true, false, ◌≡◌, ◌++◌, ◌∷◌, ◌∙◌, [], ℕ, List, Option, None, Some, IfSome, take, drop, refl, sym, ap}
use Rattle.std.proofs.lemmas.List.{append_assoc, append-nil, take-append-drop}
use Rattle.std.specs.Io.KnownBytes.{Consumes, IsAtEnd, Keeps}
use Rattle.gi_clock.specs.Handing.{Came, has_feed, open_line, told, whole_lines}
use Rattle.gi_clock.specs.HeldRepr.{given_of, left_of}
use Rattle.gi_clock.specs.declared.held.Held.{Held}

pub told_none : (begun : List ℕ) → told begun [] ≡ begun
unfolding told
told_none begun = refl

told_next : (begun : List ℕ) (came : Came) (rest : List Came)
    → told begun (came ∷ rest)
    ≡ came.line ++ (if has_feed came.bytes then begun ++ (whole_lines came.bytes ++ told (open_line came.bytes) rest) else told (begun ++ came.bytes) rest)
unfolding told
told_next begun came rest = refl

-- what came with a line feed is told
pub tells_whole : (begun given new line bytes : List ℕ) (at : ℕ) (rest : List Came)
    → has_feed bytes ≡ true → take at bytes ≡ whole_lines bytes → drop at bytes ≡ open_line bytes
    → given ≡ line ++ (begun ++ take at bytes) → new ≡ drop at bytes
    → given ++ told new rest ≡ told begun (record { line = line; bytes = bytes } ∷ rest)
tells_whole begun given new line bytes at rest feed front back g n =
    rw (g, n, told_next begun (record { line = line; bytes = bytes }) rest, feed, front, back)
    (append_assoc line (begun ++ whole_lines bytes) (told (open_line bytes) rest)
    ∙ ap (λ l. line ++ l) (append_assoc begun (whole_lines bytes) (told (open_line bytes) rest)))

-- and what came with none
pub tells_open : (begun new line bytes : List ℕ) (rest : List Came) → has_feed bytes ≡ false → new ≡ begun ++ bytes
    → line ++ told new rest ≡ told begun (record { line = line; bytes = bytes } ∷ rest)
tells_open begun new line bytes rest none n = rw (n, told_next begun (record { line = line; bytes = bytes }) rest, none) refl

-- the front of what is held, and the rest
pub given_split : (count : ℕ) (rest more : List ℕ) → rest ++ more ≡ take count rest ++ (drop count rest ++ more)
given_split count rest more =
    ap (λ l. l ++ more) (sym (take-append-drop count rest)) ∙ append_assoc (take count rest) (drop count rest) more

pub keeps_on : (a b c : Option (List ℕ)) → Keeps a b → Keeps b c → Keeps a c
keeps_on None b c k l = tt
keeps_on (Some xs) None c k l = absurd k
keeps_on (Some xs) (Some ys) None k l = absurd l
keeps_on (Some xs) (Some ys) (Some zs) k l = l ∙ k

pub consumes_on : (a b c : Option (List ℕ)) (bytes : List ℕ) → Keeps a b → Consumes b c bytes → Consumes a c bytes
consumes_on None b c bytes k l = tt
consumes_on (Some xs) None c bytes k l = absurd k
consumes_on (Some xs) (Some ys) None bytes k l = absurd l
consumes_on (Some xs) (Some ys) (Some zs) bytes k l = sym k ∙ l

pub keeps_all : (a : Option (List ℕ)) → Keeps a a
keeps_all None = tt
keeps_all (Some xs) = refl

given_end : (held : Held) → held.rest ≡ [] → held.piece ≡ None → given_of held [] ≡ held.begun.items
given_end held none nothing = rw (none, nothing) (told_none held.begun.items)

-- what was begun is given at the end
pub ends : (old new : Held) → old.rest ≡ [] → old.piece ≡ None → new.piece ≡ None → new.rest ≡ old.begun.items → new.begun.items ≡ [] → given_of new [] ≡ given_of old []
ends old new none nothing still rest begun =
    rw (still, rest, begun, told_none []) (append-nil old.begun.items) ∙ sym (given_end old none nothing)

-- where nothing is held and nothing comes, nothing is left
pub at_end : (held : Held) (old new : Option (List Came)) → held.rest ≡ [] → held.piece ≡ None → held.begun.items ≡ []
    → IfSome old (λ events. (events ≡ []) × (new ≡ Some [])) → IfSome new (λ events. events ≡ [])
    → Consumes (left_of held old) (left_of held new) [] × IsAtEnd (left_of held new)
at_end held None None none nothing begun known over = (tt, tt)
at_end held None (Some events) none nothing begun known over = (tt, rw over (given_end held none nothing ∙ begun))
at_end held (Some events) new none nothing begun known over = rw (known.0, known.1) (refl, given_end held none nothing ∙ begun)

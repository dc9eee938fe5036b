-- Moves that are read word by word.
use Rattle.std.proofs.Common.{◌≡◌, ℕ, List, [], ◌∷◌, ◌++◌, map, ap, sym, ◌∙◌, refl}
use Rattle.gi_carrier.specs.declared.moves.Move.{Move}
use Rattle.gi_script.specs.Grammar.{SaysMoves}
use Rattle.gi_carrier.specs.Moves.{move_text}

-- one move more
pub texts_push : (moves : List Move) (next : Move) (words : List (List ℕ)) (word : List ℕ) (rest : List (List ℕ)) (all : List (List ℕ))
    → all ≡ map move_text moves ++ words → words ≡ word ∷ rest → word ≡ move_text next → all ≡ map move_text (moves ++ next ∷ []) ++ rest
texts_push [] next words word rest all e first is = cc
texts_push (m ∷ ms) next words word rest all e first is =
    e ∙ ap (λ (ws : List (List ℕ)). move_text m ∷ ws) (texts_push ms next words word rest (map move_text ms ++ words) refl first is)

-- a word after others is a move's text
pub text_at : (moves front : List Move) (word : List ℕ) (rest : List (List ℕ)) → map move_text moves ≡ map move_text front ++ word ∷ rest
    → (m : Move) × (word ≡ move_text m)
text_at [] [] word rest e = absurd cc
text_at [] (f ∷ fs) word rest e = absurd cc
text_at (m ∷ ms) [] word rest e = (m, cc)
text_at (m ∷ ms) (f ∷ fs) word rest e = let tails : map move_text ms ≡ map move_text fs ++ word ∷ rest = cc in text_at ms fs word rest tails

-- a word that is no move
pub no_move : (words left : List (List ℕ)) (front : List Move) (word : List ℕ) (rest : List (List ℕ)) → words ≡ map move_text front ++ left → left ≡ word ∷ rest
    → ((m : Move) → ¬ (word ≡ move_text m)) → (moves : List Move) → ¬ (SaysMoves words moves)
no_move words left front word rest e first none moves says =
    let all : map move_text moves ≡ map move_text front ++ word ∷ rest = sym says.are ∙ e ∙ ap (λ (ws : List (List ℕ)). map move_text front ++ ws) first in
    let found = text_at moves front word rest all in
    none found.0 found.1

-- A word names one verb, side, direction, move at most.
use Rattle.std.proofs.Common.{◌≡◌, ℕ, Bool, true, false, cond, List, [], ◌∷◌, find, Option, Some, None, refl, sym, ap, ◌∙◌, codes}
use Rattle.std.specs.Str.{bytes_eq}
use Rattle.std.proofs.lemmas.Option.{same_Some}
use Rattle.std.proofs.lemmas.Slice.Eq.{bytes_eq-Decides}
use Rattle.gi_carrier.specs.declared.moves.Move.{Move}
use Rattle.gi_carrier.specs.declared.moves.Move.TheVariants as moves
use Rattle.gi_pairs.specs.Direction.{direction_named, direction_text, directions}
use Rattle.gi_pairs.specs.Side.{side_named, side_text, sides}
use Rattle.gi_pairs.specs.declared.direction.Direction.{Direction}
use Rattle.gi_pairs.specs.declared.direction.Direction.TheVariants.{IM, MI}
use Rattle.gi_pairs.specs.declared.side.Side.{Side}
use Rattle.gi_pairs.specs.declared.side.Side.TheVariants.{I, M}
use Rattle.gi_script.specs.Reading.{Finds}
use Rattle.gi_carrier.specs.Moves.{move_text}
use Rattle.gi_script.specs.Verb.{verb_text, verbs, verb_named, move_named}
use Rattle.gi_script.specs.declared.verb.Verb.{Verb}
use Rattle.gi_script.specs.declared.verb.Verb.TheVariants as verb

-- what is found passes
here_or_later : {X : Type 0} (p : X → Bool) (x y : X) (rest : Option X) (b : Bool) → p y ≡ b → (rest ≡ Some x → p x ≡ true) → cond b (Some y) rest ≡ Some x → p x ≡ true
here_or_later p x y rest true is later e = ap p (sym (same_Some y x e)) ∙ is
here_or_later p x y rest false is later e = later e

found_passes : {X : Type 0} (p : X → Bool) (xs : List X) (x : X) → find p xs ≡ Some x → p x ≡ true
found_passes p [] x e = absurd cc
found_passes p (y ∷ ys) x e = here_or_later p x y (find p ys) (p y) refl (found_passes p ys x) e

-- a name that is found is the text of what is found
found_text : {X : Type 0} (text : X → List ℕ) (xs : List X) (word : List ℕ) (x : X) → find (λ y. bytes_eq word (text y)) xs ≡ Some x → word ≡ text x
found_text text xs word x e = (bytes_eq-Decides word (text x)).0 (found_passes (λ y. bytes_eq word (text y)) xs x e)

-- what a name finds, where each text finds its own
pub finds_named : {X : Type 0} (text : X → List ℕ) (named : List ℕ → Option X) → ((word : List ℕ) (x : X) → named word ≡ Some x → word ≡ text x) → ((x : X) → named (text x) ≡ Some x)
    → (word : List ℕ) (r : Option X) → r ≡ named word → Finds (λ x. word ≡ text x) r
finds_named text named takes again word (Some x) e = takes word x (sym e)
finds_named text named takes again word None e = λ x is. let found : named word ≡ Some x = ap named is ∙ again x in cc

-- ---- verbs

pub verb-takes : (word : List ℕ) (v : Verb) → verb_named word ≡ Some v → word ≡ verb_text v
unfolding verb_named
verb-takes word v e = found_text verb_text verbs word v e

pub verb-again : (v : Verb) → verb_named (verb_text v) ≡ Some v
unfolding verb_named
verb-again verb.Contract = refl
verb-again verb.Notice = refl
verb-again verb.Submit = refl
verb-again verb.Close = refl
verb-again verb.Resend = refl
verb-again verb.Halt = refl
verb-again verb.Save = refl
verb-again verb.Deliver = refl
verb-again verb.Restart = refl
verb-again verb.Carry = refl

pub finds_verb : (word : List ℕ) (r : Option Verb) → r ≡ verb_named word → Finds (λ v. word ≡ verb_text v) r
finds_verb word r e = finds_named verb_text verb_named verb-takes verb-again word r e

pub verb-one : (a b : Verb) → verb_text a ≡ verb_text b → a ≡ b
verb-one a b e = let same : verb_named (verb_text a) ≡ verb_named (verb_text b) = ap verb_named e in let x = verb-again a in let y = verb-again b in cc

-- ---- sides

side-takes : (word : List ℕ) (s : Side) → side_named word ≡ Some s → word ≡ side_text s
unfolding side_named
side-takes word s e = found_text side_text sides word s e

side-again : (s : Side) → side_named (side_text s) ≡ Some s
unfolding side_named
side-again I = refl
side-again M = refl

pub finds_side : (word : List ℕ) (r : Option Side) → r ≡ side_named word → Finds (λ s. word ≡ side_text s) r
finds_side word r e = finds_named side_text side_named side-takes side-again word r e

pub side-one : (a b : Side) → side_text a ≡ side_text b → a ≡ b
side-one a b e = let same : side_named (side_text a) ≡ side_named (side_text b) = ap side_named e in let x = side-again a in let y = side-again b in cc

-- `plan` is no side
pub plan_no_side : (s : Side) → codes "plan" ≡ side_text s → ⊥
plan_no_side I e = cc
plan_no_side M e = cc

-- ---- directions

direction-takes : (word : List ℕ) (d : Direction) → direction_named word ≡ Some d → word ≡ direction_text d
unfolding direction_named
direction-takes word d e = found_text direction_text directions word d e

direction-again : (d : Direction) → direction_named (direction_text d) ≡ Some d
unfolding direction_named
direction-again IM = refl
direction-again MI = refl

pub finds_direction : (word : List ℕ) (r : Option Direction) → r ≡ direction_named word → Finds (λ d. word ≡ direction_text d) r
finds_direction word r e = finds_named direction_text direction_named direction-takes direction-again word r e

pub direction-one : (a b : Direction) → direction_text a ≡ direction_text b → a ≡ b
direction-one a b e = let same : direction_named (direction_text a) ≡ direction_named (direction_text b) = ap direction_named e in let x = direction-again a in let y = direction-again b in cc

-- ---- moves

move-takes : (word : List ℕ) (m : Move) → move_named word ≡ Some m → word ≡ move_text m
unfolding move_named
move-takes word m e = found_text move_text (moves.Pass ∷ moves.Drop ∷ moves.Repeat ∷ moves.Hold ∷ []) word m e

move-again : (m : Move) → move_named (move_text m) ≡ Some m
unfolding move_named
move-again moves.Pass = refl
move-again moves.Drop = refl
move-again moves.Repeat = refl
move-again moves.Hold = refl

pub finds_move : (word : List ℕ) (r : Option Move) → r ≡ move_named word → Finds (λ m. word ≡ move_text m) r
finds_move word r e = finds_named move_text move_named move-takes move-again word r e

pub move-one : (a b : Move) → move_text a ≡ move_text b → a ≡ b
move-one a b e = let same : move_named (move_text a) ≡ move_named (move_text b) = ap move_named e in let x = move-again a in let y = move-again b in cc

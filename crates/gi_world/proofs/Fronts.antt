-- What the first of a list of facts say, all of them say.
use Rattle.std.proofs.Common.{◌≡◌, ◌≤◌, inl, inr, ℕ, List, [], ◌∷◌, ◌++◌, length, take, drop, true, Some, sym, ap, ◌∙◌, subst}
use Rattle.std.proofs.lemmas.List.{append_assoc, take-append-drop, take-append-le, take-take}
use Rattle.gi_pairs.specs.Table.{TableContents}
use Rattle.gi_pairs.specs.declared.cycle_id.CycleId.{CycleId}
use Rattle.gi_pairs.specs.declared.side.Side.{Side}
use Rattle.gi_desk.specs.History.{frozen_table, is_closed, peer_of}
use Rattle.gi_desk.specs.Laws.{HasOneMoreAtMost}
use Rattle.gi_desk.specs.Machine.{DeskState}
use Rattle.gi_facts.specs.declared.fact.Fact.{Fact}
use Rattle.gi_desk.proofs.StateLaws.{frozen_table-more, is_closed-more, peer_of-more}
use Rattle.gi_world.specs.Agreement.{saved_facts}

abbrev pub IsFront : List Fact → List Fact → Type 0
IsFront front all = (more : List Fact) × (all ≡ front ++ more)

pub front-trans : (a b c : List Fact) → IsFront a b → IsFront b c → IsFront a c
front-trans a b c (x, b_is) (y, c_is) = (x ++ y, c_is ∙ ap (λ (facts : List Fact). facts ++ y) b_is ∙ append_assoc a x y)

pub front-take : (facts : List Fact) (n : ℕ) → IsFront (take n facts) facts
front-take facts n = (drop n facts, sym (take-append-drop n facts))

pub saved-front : (s : DeskState) → IsFront (saved_facts s) s.facts
saved-front s = front-take s.facts s.saved

-- the first of the first
pub front-within : (facts : List Fact) (m n : ℕ) → m ≤ n → IsFront (take m facts) (take n facts)
front-within facts m n below = subst (λ (front : List Fact). IsFront front (take n facts)) (take-take m n facts below) (front-take (take n facts) m)

-- the first of more
pub front-more : (old new : List Fact) (m n : ℕ) → m ≤ n → m ≤ length old → HasOneMoreAtMost old new → IsFront (take m old) (take n new)
front-more old new m n below within (inl same) = subst (λ (facts : List Fact). IsFront (take m old) (take n facts)) (sym same) (front-within old m n below)
front-more old new m n below within (inr (fact, longer)) =
    subst (λ (facts : List Fact). IsFront (take m old) (take n facts)) (sym longer)
    (subst (λ (front : List Fact). IsFront front (take n (old ++ fact ∷ []))) (take-append-le m old (fact ∷ []) within) (front-within (old ++ fact ∷ []) m n below))

pub front-closed : (front all : List Fact) (id : CycleId) → IsFront front all → is_closed id front ≡ true → is_closed id all ≡ true
front-closed front all id (more, is) closed = ap (is_closed id) is ∙ is_closed-more id front more closed

pub front-met : (front all : List Fact) (id : CycleId) (peer : TableContents) → IsFront front all → peer_of id front ≡ Some peer → peer_of id all ≡ Some peer
front-met front all id peer (more, is) met = ap (peer_of id) is ∙ peer_of-more id front more peer met

pub front-frozen : (side : Side) (front all : List Fact) (id : CycleId) → IsFront front all → is_closed id front ≡ true
    → frozen_table side all id ≡ frozen_table side front id
front-frozen side front all id (more, is) closed = ap (λ (facts : List Fact). frozen_table side facts id) is ∙ frozen_table-more side front more id closed

use Rattle.std.proofs.Common.{◌≡◌, [], ◌↔◌, Bool, true, false, not, Option, Some, None, is_some, IsTrue, refl, List, ℕ, Bor}
use Rattle.gi_script.specs.WordsRepr.{words_left}
use Rattle.gi_script.proofs.WordLemmas.{words-some}
use Rattle.gi_script.proofs.words.Words.is_empty.Goals as goal

by_rest : (rest : Option (Bor (List ℕ))) (none : Bool) → is_some rest ≡ not none → IsTrue none ↔ (words_left rest ≡ [])
by_rest None true is = (λ _. refl, λ _. refl)
by_rest None false is = absurd cc
by_rest (Some text) true is = absurd cc
by_rest (Some text) false is = (λ never. absurd cc, λ empty. absurd (words-some text.now empty))

pub returns : goal.returns
returns c = rw (← c.self.view_is) (by_rest c.self.inside.rest c.is_none.result c.is_none.ensures)

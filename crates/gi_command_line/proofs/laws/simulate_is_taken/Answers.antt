use Rattle.std.proofs.Common.{◌≡◌, codes, List, [], ◌∷◌, ℕ, true, false, refl}
use Rattle.clap.proofs.OnLiterals.{clap_on_literals}
use Rattle.gi_command_line.specs.Asked.{at_once, simulate}
use Rattle.gi_command_line.specs.CommandLine.{asked, objections}
use Rattle.gi_command_line.proofs.laws.simulate_is_taken.Goals as goal

no_objection : (program : List ℕ) → objections (program ∷ codes "simulate" ∷ []) ≡ []
unfolding clap_on_literals
no_objection program = refl

no_objection_traced : (program : List ℕ) → objections (program ∷ codes "simulate" ∷ codes "--trace" ∷ []) ≡ []
unfolding clap_on_literals
no_objection_traced program = refl

asks : (program : List ℕ) → asked (program ∷ codes "simulate" ∷ []) ≡ at_once (simulate false false)
unfolding clap_on_literals
asks program = refl

asks_traced : (program : List ℕ) → asked (program ∷ codes "simulate" ∷ codes "--trace" ∷ []) ≡ at_once (simulate true false)
unfolding clap_on_literals
asks_traced program = refl

no_objection_strict : (program : List ℕ) → objections (program ∷ codes "simulate" ∷ codes "--strict" ∷ []) ≡ []
unfolding clap_on_literals
no_objection_strict program = refl

asks_strictly : (program : List ℕ) → asked (program ∷ codes "simulate" ∷ codes "--strict" ∷ []) ≡ at_once (simulate false true)
unfolding clap_on_literals
asks_strictly program = refl

pub returns-clause-plain : goal.returns-clause-plain
returns-clause-plain c = λ program. (no_objection program, asks program)

pub returns-clause-traced : goal.returns-clause-traced
returns-clause-traced c = λ program. (no_objection_traced program, asks_traced program)

pub returns-clause-strict : goal.returns-clause-strict
returns-clause-strict c = λ program. (no_objection_strict program, asks_strictly program)

-- A desk without facts is always replayed.
use Rattle.std.proofs.Common.{◌≡◌, ℕ, List, [], Result, Ok, Err, refl, subst}
use Rattle.std.specs.Result.{IsOk}
use Rattle.gi_pairs.specs.declared.side.Side.{Side}
use Rattle.gi_desk.specs.Machine.{DeskState, IsReplayed, bad_fact}
use Rattle.gi_facts.specs.declared.fact.Fact.{Fact}
use Rattle.gi_desk.specs.declared.replay_fault.ReplayFault.{ReplayFault}
use Rattle.gi_desk.specs.declared.replay_fault.ReplayFault.TheVariants.{BadFact, OutOfMemory}

opens_none : (side : Side) (point : List ℕ) (r : Result DeskState ReplayFault) → IsReplayed side point [] r → IsOk r
unfolding bad_fact
opens_none side point (Ok s) is = refl
opens_none side point (Err (BadFact n)) is = absurd cc
opens_none side point (Err OutOfMemory) is = absurd is

pub opens : (side : Side) (point : List ℕ) (facts : List Fact) (r : Result DeskState ReplayFault) → facts ≡ [] → IsReplayed side point facts r → IsOk r
opens side point facts r none is = opens_none side point r (subst (λ (xs : List Fact). IsReplayed side point xs r) none is)

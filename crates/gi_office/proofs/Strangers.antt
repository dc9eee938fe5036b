-- What is told of a stranger is what two offices are refused for.
use Rattle.std.proofs.Common.{inl, inr, Err, sym, subst}
use Rattle.gi_pairs.specs.declared.side.Side.{Side}
use Rattle.gi_pairs.specs.declared.side.Side.TheVariants.{I, M}
use Rattle.gi_office.specs.Reconciling.{AreFrom, AreOfOnePoint, IsFirstStranger, IsStrangerFault, Reconciles, entries_of}
use Rattle.gi_office.specs.Settling.{SettledState}
use Rattle.gi_office.specs.declared.unreconciled.Unreconciled.{Unreconciled}
use Rattle.gi_office.specs.declared.unreconciled.Unreconciled.TheVariants.{NotAPair, Stranger, OutOfMemory}

pub told_first :
    (initiating matching : SettledState) (fault : Unreconciled) → AreOfOnePoint initiating matching → IsStrangerFault I M matching.desk (entries_of initiating.lives) fault
    → Reconciles initiating matching (Err fault)
told_first initiating matching NotAPair one strange = absurd strange
told_first initiating matching (Stranger side place) one strange =
    (one, subst (λ (s : Side). IsFirstStranger initiating matching s place) (sym strange.0) strange.1)
told_first initiating matching OutOfMemory one strange = (one, inl strange)

pub told_next :
    (initiating matching : SettledState) (fault : Unreconciled) → AreOfOnePoint initiating matching → AreFrom M matching.desk (entries_of initiating.lives)
    → IsStrangerFault M I initiating.desk (entries_of matching.lives) fault → Reconciles initiating matching (Err fault)
told_next initiating matching NotAPair one from strange = absurd strange
told_next initiating matching (Stranger side place) one from strange =
    (one, subst (λ (s : Side). IsFirstStranger initiating matching s place) (sym strange.0) (from, strange.1))
told_next initiating matching OutOfMemory one from strange = (one, inr (from, strange))

-- What came of a step, as it is printed.
use Rattle.std.specs.Prelude.{ℕ, List, ◌++◌, codes}
use Rattle.std.specs.Fmt.{decimal}
use Rattle.gi_desk.specs.FaultText.{refusal_text}
use Rattle.gi_simulation.specs.declared.outcome.Outcome.{Outcome}
use Rattle.gi_simulation.specs.declared.outcome.Outcome.TheVariants.{Recorded, Repeat, Kept, Saved, Resent, Stopped, Restarted, Nothing, Refused, NotMade}
use Rattle.gi_world.specs.FaultText.{world_fault_text}

abbrev pub outcome_text : Outcome → List ℕ
outcome_text (Recorded n) = codes "recorded " ++ decimal n
outcome_text (Repeat n) = codes "repeat " ++ decimal n
outcome_text (Kept have) = codes "kept " ++ decimal have
outcome_text (Saved n) = codes "saved " ++ decimal n
outcome_text (Resent packets) = codes "resent " ++ decimal packets
outcome_text Stopped = codes "stopped"
outcome_text (Restarted saved) = codes "restarted " ++ decimal saved
outcome_text Nothing = codes "nothing"
outcome_text (Refused refusal) = codes "refused " ++ refusal_text refusal
outcome_text (NotMade fault) = codes "refused " ++ world_fault_text fault

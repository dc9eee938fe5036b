-- The submissions that a side refuses.
use Rattle.std.specs.Prelude.{ℕ, List, [], ◌∷◌, ◌++◌, Option, Some, None, Result, Ok}
use Rattle.gi_desk.specs.declared.call.Call.{Call}
use Rattle.gi_desk.specs.declared.call.Call.TheVariants as calls
use Rattle.gi_messages.specs.Decoding.{decoded}
use Rattle.gi_messages.specs.declared.message.Message.{Message}
use Rattle.gi_messages.specs.declared.message.Message.TheVariants.{Nomint}
use Rattle.gi_messages.specs.declared.message_fault.MessageFault.{MessageFault}
use Rattle.gi_pairs.specs.declared.side.Side.{Side}
use Rattle.gi_pairs.specs.declared.side.Side.TheVariants.{I, M}
use Rattle.gi_script.specs.declared.instruction.Instruction.{Instruction}
use Rattle.gi_script.specs.declared.instruction.Instruction.TheVariants as instructions
use Rattle.gi_script.specs.declared.line.Line.{Line}
use Rattle.gi_simulation.specs.Simulation.{SimulationState, outcome_of}
use Rattle.gi_simulation.specs.declared.outcome.Outcome.{Outcome}
use Rattle.gi_simulation.specs.declared.outcome.Outcome.TheVariants.{Refused}

-- the portfolio of a submission; none where its bytes are no NOMINT
abbrev pub portfolio_in : Result Message MessageFault → Option (List ℕ)
portfolio_in (Ok (Nomint document)) = Some document.portfolio
portfolio_in _ = None

-- a submission's, and nothing of another call
abbrev pub submitted_by : Call → List (Option (List ℕ))
submitted_by (calls.Submit body) = portfolio_in (decoded body) ∷ []
submitted_by _ = []

-- that of a call at the side
abbrev pub at_side : Side → Side → List (Option (List ℕ)) → List (Option (List ℕ))
at_side I I found = found
at_side I M found = []
at_side M I found = []
at_side M M found = found

abbrev pub submitted : Side → Instruction → List (Option (List ℕ))
submitted side (instructions.Call at call) = at_side side at (submitted_by call)
submitted side _ = []

-- where the desk refused it
abbrev pub where_refused : Option Outcome → List (Option (List ℕ)) → List (Option (List ℕ))
where_refused (Some (Refused refusal)) found = found
where_refused _ found = []

-- the portfolio of a line's submission, where the side refused it
abbrev pub refused_by : Side → SimulationState → Line → List (Option (List ℕ))
refused_by side s line = where_refused (outcome_of s line.instruction) (submitted side line.instruction)

-- the portfolios of a side's refused submissions
pub record RefusedState : Type 0 where
  pub side : Side
  pub portfolios : List (Option (List ℕ))

abbrev pub recording : RefusedState → SimulationState → Line → RefusedState
recording so_far s line = record { side = so_far.side; portfolios = so_far.portfolios ++ refused_by so_far.side s line }

-- the same by the turn's outcome
abbrev pub recording_outcome : RefusedState → Line → Option Outcome → List ℕ → RefusedState
recording_outcome so_far line outcome lines =
    record { side = so_far.side; portfolios = so_far.portfolios ++ where_refused outcome (submitted so_far.side line.instruction) }

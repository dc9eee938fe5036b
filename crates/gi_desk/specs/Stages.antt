-- What a desk keeps of the closed cycles: the stage of each under its name.
use Rattle.std.specs.Prelude.{◌≡◌, ℕ, List, Option, Some, None, option_map, if◌then◌else◌}
use Rattle.std.specs.BTreeMap.{is_at}
use Rattle.std.specs.Map.{lookup}
use Rattle.gi_pairs.specs.CycleId.{answered}
use Rattle.gi_pairs.specs.declared.cycle_id.CycleId.{CycleId}
use Rattle.gi_pairs.specs.declared.side.Side.{Side}
use Rattle.gi_desk.specs.History.{is_closed, is_closing, is_meeting, number_of, peer_of, state_of}
use Rattle.gi_desk.specs.Machine.{bad_fact}
use Rattle.gi_desk.specs.declared.stage.Stage.{Stage}
use Rattle.gi_facts.specs.declared.fact.Fact.{Fact}

-- the stage under a name
abbrev pub stage_in : List (CycleId × Stage) → CycleId → Option Stage
stage_in entries id = lookup (is_at (answered id)) entries

-- how far a closed cycle is, with the numbers of its closing and, where it met the peer's table, of its meeting
abbrev pub stage_at : Side → List Fact → CycleId → Stage
stage_at side facts id = record {
  state = state_of side facts id;
  closing = number_of (is_closing id) facts;
  meeting = option_map (λ peer. number_of (is_meeting id) facts) (peer_of id facts);
}

abbrev pub closed_stage : Side → List Fact → CycleId → Option Stage
closed_stage side facts id = if is_closed id facts then Some (stage_at side facts id) else None

-- of facts that are legal, each closed cycle has its stage, and no other cycle has one
pub record AreStages (side : Side) (point : List ℕ) (facts : List Fact) (entries : List (CycleId × Stage)) : Type 0 where
  pub legal : bad_fact side point facts ≡ None
  pub at : (id : CycleId) → stage_in entries id ≡ closed_stage side facts id

-- How many facts a desk has, how many of them are saved, and how many cycles are confirmed.
use Rattle.std.specs.Prelude.{ℕ, List, ◌++◌, length, filter, Bool, is_some, codes}
use Rattle.std.specs.Fmt.{decimal}
use Rattle.gi_pairs.specs.Side.{side_text}
use Rattle.gi_pairs.specs.declared.cycle_id.CycleId.{CycleId}
use Rattle.gi_pairs.specs.declared.side.Side.{Side}
use Rattle.gi_desk.specs.History.{closings}
use Rattle.gi_desk.specs.Machine.{DeskState}
use Rattle.gi_desk.specs.Queries.{confirmed}

abbrev pub is_confirmed : Side → DeskState → CycleId → Bool
is_confirmed side s id = is_some (confirmed side s id)

-- how many of the closed cycles are confirmed
abbrev pub confirmed_count : Side → DeskState → ℕ
confirmed_count side s = length (filter (is_confirmed side s) (closings s.facts))

-- `I facts 4 saved 4 confirmed 1`
abbrev pub counts_line : Side → DeskState → List ℕ
counts_line side s =
    side_text side ++ (codes " facts " ++ (decimal (length s.facts) ++ (codes " saved " ++ (decimal s.saved
    ++ (codes " confirmed " ++ (decimal (confirmed_count side s) ++ codes "\n"))))))

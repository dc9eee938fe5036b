-- Lives of one desk that are kept together, and how those of a later office join them.
use Rattle.std.specs.Prelude.{◌≡◌, ◌≢◌, ◌≤◌, ◌<◌, ◌⊎◌, ℕ, zero, suc, List, [], ◌∷◌, ◌++◌, length, take, drop, slice_get, All, Result, Ok, Err}
use Rattle.std.specs.List.{sum_by}
use Rattle.gi_pairs.specs.declared.side.Side.{Side}
use Rattle.gi_facts.specs.declared.fact.Fact.{Fact}
use Rattle.gi_desk.specs.Machine.{DeskState}
use Rattle.gi_office.specs.Lives.{Life}
use Rattle.gi_office.specs.Settling.{AreLegal, GoesOn, SettledState}
use Rattle.gi_office.specs.declared.entry.Entry.{Entry}
use Rattle.gi_office.specs.declared.life_fault.LifeFault.{LifeFault}
use Rattle.gi_office.specs.declared.life_fault.LifeFault.TheVariants.{LifeBroken, OutOfMemory}
use Rattle.gi_office.specs.declared.stretch.Stretch.{Stretch}

-- ---- lives that are kept together

-- The facts that a life was opened with are the first ones of the last desk still.
abbrev pub life_from : DeskState → ℕ → List Entry → Life
life_from desk opening trail = record { point = desk.point; opening = take opening desk.facts; trail = trail }

-- The lives before the last one have so many of the entries each, and the last one has those that are left.
abbrev pub lives_of : DeskState → List Stretch → ℕ → List Entry → List Life
lives_of desk [] opening trail = life_from desk opening trail ∷ []
lives_of desk (stretch ∷ later) opening trail = life_from desk stretch.opening (take stretch.calls trail) ∷ lives_of desk later opening (drop stretch.calls trail)

-- The lives are legal, one after the other; each was opened with facts that the last desk has; and the lives before the last
-- one have so many entries in all.
pub record AreKept (side : Side) (desk : DeskState) (earlier : List Stretch) (before opening : ℕ) (trail : List Entry) : Type 0 where
  pub legal : AreLegal side (lives_of desk earlier opening trail) desk
  pub within : opening ≤ length desk.facts
  pub fronts : All (λ (stretch : Stretch). stretch.opening ≤ length desk.facts) earlier
  pub counted : before ≡ sum_by (λ (stretch : Stretch). stretch.calls) earlier
  pub room : before ≤ length trail

-- ---- lives that join

-- the facts that the first life was opened with
abbrev pub opening_of : List Life → List Fact
opening_of [] = []
opening_of (life ∷ later) = life.opening

-- of so many facts, the one after these is the first that the others do not have so
pub record IsOther (former later : List Fact) (opening before : ℕ) : Type 0 where
  pub within : before < opening
  pub alike : take before later ≡ take before former
  pub other : slice_get later before ≢ slice_get former before

-- the first fact, after so many, at which a desk of the same point does not go on from where a life of it ended
pub record BreaksAfter (end : DeskState) (opened_at : List ℕ) (opening : List Fact) (before : ℕ) : Type 0 where
  pub point : opened_at ≡ end.point
  pub alike : take before opening ≡ take before end.facts
  pub broken : ((before < length opening) × (slice_get opening before ≢ slice_get end.facts before)) ⊎ ((before ≡ length opening) × (before < end.saved))

-- Where it does not go on: 0 for another point; else the least number of a fact that it was opened with and that is not so
-- at the end; else, where it was opened with fewer facts than were saved there, the number of the first that it lacks.
abbrev pub Breaks : DeskState → List ℕ → List Fact → ℕ → Type 0
Breaks end point opening zero = ¬ (point ≡ end.point)
Breaks end point opening (suc before) = BreaksAfter end point opening before

-- two offices' lives, one after the other
abbrev pub joined_of : SettledState → SettledState → SettledState
joined_of former later = record { lives = former.lives ++ later.lives; desk = later.desk }

-- The later lives join exactly where the first of them goes on from where the former ones ended; else it is told where not.
abbrev pub Joins : SettledState → SettledState → Result SettledState LifeFault → Type 0
Joins former later (Ok joined) = GoesOn former.desk later.desk.point (opening_of later.lives) × (joined ≡ joined_of former later)
Joins former later (Err (LifeBroken n)) = Breaks former.desk later.desk.point (opening_of later.lives) n
Joins former later (Err OutOfMemory) = GoesOn former.desk later.desk.point (opening_of later.lives)

-- Which session gets which submission of a batch: the portfolios go round the sessions in order of first appearance.
use Rattle.std.specs.Prelude.{◌≤◌, ℕ, ◌+◌, ◌%◌, List, [], ◌∷◌, map, Bool, Option, None, Some, nat_eq}
use Rattle.std.specs.List.{flat_map, position_or_len}
use Rattle.std.specs.Cmp.Lexicographic.{pointwise}
use Rattle.gi_messages.specs.Decoding.{decoded}
use Rattle.gi_reports.specs.Refused.{first_places}
use Rattle.gi_simulation.specs.Refused.{portfolio_in}

abbrev pub is_same : List ℕ → List ℕ → Bool
is_same = pointwise nat_eq

-- the portfolio of each submission; none where its bytes are no NOMINT
abbrev pub portfolios_of : List (List ℕ) → List (Option (List ℕ))
portfolios_of bodies = map (λ body. portfolio_in (decoded body)) bodies

abbrev pub code_in : Option (List ℕ) → List (List ℕ)
code_in None = []
code_in (Some portfolio) = portfolio ∷ []

-- each portfolio once, in order of first appearance; what is no NOMINT has none
abbrev pub in_order : List (Option (List ℕ)) → List (List ℕ)
in_order portfolios = flat_map code_in (first_places portfolios)

-- how many stand before it
abbrev pub place_in : List (List ℕ) → List ℕ → ℕ
place_in order portfolio = position_or_len (λ other. is_same other portfolio) order

-- the session, from 1, of a submission of this portfolio; the first one where it has none
abbrev pub session_of : ℕ → List (List ℕ) → Option (List ℕ) → ℕ
session_of sessions order None = 1
session_of sessions order (Some portfolio) = place_in order portfolio % sessions + 1

-- the session of each submission of a batch at one side, in order
abbrev pub sessions_of : ℕ → List (List ℕ) → List ℕ
sessions_of sessions bodies =
    let portfolios = portfolios_of bodies in map (session_of sessions (in_order portfolios)) portfolios

-- a number of so many sessions
abbrev pub IsNumber : ℕ → ℕ → Type 0
IsNumber sessions number = (1 ≤ number) × (number ≤ sessions)

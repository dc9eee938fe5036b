-- The least number of a packet of given bytes is one.
use Rattle.std.proofs.Common.{◌≡◌, ◌<◌, ◌+◌, ℕ, List, nat_lt, ltb-false, ltb-true, Bool, true, false, Option, Some, None, option_map, arith, ap, refl}
use Rattle.std.specs.List.{position}
use Rattle.gi_pairs.specs.declared.side.Side.{Side}
use Rattle.gi_world.proofs.Numbers.{numbered, unnumbered}
use Rattle.gi_world.specs.World.{IsNumberOf, WorldState, has_bytes, other, station_of}
use Rattle.gi_simulation.specs.Simulation.{number_of}

least_is : (n m : ℕ) → (n < m → ⊥) → (m < n → ⊥) → n ≡ m
least_is n m not_less not_more = by_test (nat_lt n m) refl (nat_lt m n) refl
  where
    by_test : (less : Bool) → nat_lt n m ≡ less → (more : Bool) → nat_lt m n ≡ more → n ≡ m
    by_test true less more is = absurd (not_less (ltb-true n m less))
    by_test false less true is = absurd (not_more (ltb-true m n is))
    by_test false less false is =
        let up = ltb-false n m less in
        let down = ltb-false m n is in
        omega (arith, up, down)

same_number : (w : WorldState) (side : Side) (bytes : List ℕ) (place r : Option ℕ) → position (has_bytes bytes) (station_of (other side) w).sent ≡ place → IsNumberOf w side bytes r
    → r ≡ option_map (λ before. before + 1) place
same_number w side bytes None None found is = refl
same_number w side bytes None (Some n) found is = absurd (unnumbered (station_of (other side) w).sent bytes found n is.0)
same_number w side bytes (Some place) None found is = absurd (is (place + 1) (numbered (station_of (other side) w).sent bytes place found).0)
same_number w side bytes (Some place) (Some n) found is =
    let (at, least) = numbered (station_of (other side) w).sent bytes place found in
    ap Some (least_is n (place + 1) (λ below. least n below is.0) (λ below. is.1 (place + 1) below at))

pub number_is : (w : WorldState) (side : Side) (bytes : List ℕ) (r : Option ℕ) → IsNumberOf w side bytes r → r ≡ number_of w side bytes
number_is w side bytes r is = same_number w side bytes (position (has_bytes bytes) (station_of (other side) w).sent) r refl is

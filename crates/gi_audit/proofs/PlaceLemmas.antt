-- The hours in which two tables may differ, one after the other.
use Rattle.std.proofs.Common.{◌≡◌, ◌<◌, ◌≤◌, ◌+◌, ◌-◌, ℕ, suc, cond, Some, None, arith, ap}
use Rattle.gi_pairs.specs.Table.{TableContents}
use Rattle.gi_pairs.specs.declared.key.Key.{Key}
use Rattle.gi_audit.specs.Place.{differing_from, differs_in}

pub one-hour : (met written : TableContents) (key : Key) (hour : ℕ) → hour ≤ 25
    → differing_from met written key (26 - hour) hour ≡ cond (differs_in met written key hour) (Some hour) (differing_from met written key (26 - (hour + 1)) (hour + 1))
one-hour met written key hour within =
    let more : 26 - hour ≡ suc (26 - (hour + 1)) = omega (arith, within) in ap (λ n. differing_from met written key n hour) more

pub no-hour : (met written : TableContents) (key : Key) (hour : ℕ) → 25 < hour → differing_from met written key (26 - hour) hour ≡ None
no-hour met written key hour past =
    let none : 26 - hour ≡ 0 = omega (arith, past) in ap (λ n. differing_from met written key n hour) none

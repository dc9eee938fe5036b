use Rattle.std.proofs.Common.{◌≡◌, arith, refl, Result, Ok}
use Rattle.std.specs.Result.{IsOk}
use Rattle.std.proofs.lemmas.Int.{ints}
use Rattle.std.proofs.lemmas.Result.{Ok-from_Ok_iff}
use Rattle.jiff_core.proofs.SignedLemmas.{signed_arith}
use Rattle.gi_day.specs.Cycles.{IsCycle}
use Rattle.gi_day.proofs.CycleLemmas.{below_is_cycle, first_start}
use Rattle.gi_day.proofs.DayFacts.{day_facts}
use Rattle.gi_moments.proofs.near.start.Goals as goal

pub unwrap-first-requires : goal.unwrap-first-requires
unwrap-first-requires c =
    let f = day_facts c.args.frame in
    let is : IsCycle c.args.frame 0 = below_is_cycle c.args.frame 0 (omega (arith, f.count_in)) in
    IsOk-from c.cycle_start.result _ (Ok-from_Ok_iff c.cycle_start.result _ _ c.cycle_start.ensures.value is)
  where
    IsOk-from : {T E : Type 0} (r : Result T E) (v : T) → r ≡ Ok v → IsOk r
    IsOk-from r v is = rw is refl

pub returns : goal.returns
returns c =
    let f = day_facts c.args.frame in
    let first = (rw c.unwrap-first.ensures at c.cycle_start.ensures.value).1 in
    let range = rw c.unwrap-first.ensures at c.cycle_start.ensures.in_range in
    let start = first_start c.args.frame in
    omega (arith, ints, signed_arith, first, range, start, f.start_is, f.count_is, f.lead_in, f.hours_in, f.count_in, c.cycle_count.ensures.value, c.hours.ensures.value, c.from.ensures)

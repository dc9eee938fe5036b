-- The order of cycles.
use Rattle.std.specs.declared.cmp.Ordering.{Ordering}
use Rattle.std.specs.Ordering.{int_cmp, nat_cmp, on, then_cmp}
use Rattle.jiff_core.specs.Date.{epoch_day}
use Rattle.gi_pairs.specs.declared.cycle_id.CycleId.{CycleId}
use Rattle.gi_pairs.specs.contracts.cycle_id.CycleIdOrd.TheImpl as derived

-- how the derived `cmp` answers
abbrev pub answered : CycleId → CycleId → Ordering
answered = (derived.ghosts).cmp

-- by the gas day, then by the number
abbrev pub cycle_cmp : CycleId → CycleId → Ordering
cycle_cmp = then_cmp (on (λ id. epoch_day id.day) int_cmp) (on (λ id. id.cycle) nat_cmp)

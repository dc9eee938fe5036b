use Rattle.std.proofs.Common.{◌+◌, refl}
use Rattle.gi_messages.specs.Limits.{last_cycle}
use Rattle.gi_schedule.proofs.InForceLemmas.{in_force}
use Rattle.gi_schedule.proofs.in_force.cycle_in_force.Goals as goal

pub returns-clause-last : goal.returns-clause-last
returns-clause-last g c =
    in_force g.R.Role.SIDE c.args.desk.now c.args.day c.args.hour c.last_before.result (last_cycle + 1) c.reveal_invariant.ensures.fits.facts refl c.last_before.ensures

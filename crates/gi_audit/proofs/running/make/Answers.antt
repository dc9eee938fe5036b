use Rattle.std.proofs.Common.{◌≡◌}
use Rattle.gi_world.specs.World.{after}
use Rattle.gi_audit.proofs.RunLemmas.{fits_from, made, made_sound}
use Rattle.gi_audit.proofs.running.make.Goals as goal

pub returns : goal.returns
returns c =
    let w = c.args.world.now in
    let step = c.args.step.now in
    let next : c.step-outcome.new.self ≡ after w step =
    made w c.step-outcome.new.self step c.step-outcome.result c.is_short.result c.step-outcome.ensures.meaning c.is_short.ensures c.if-is_short.false in
    record {
      next = next;
      sound =
          made_sound w c.step-outcome.new.self step c.requires
          (fits_from w c.initiating.result.now c.matching.result.now c.initiating.ensures c.matching.ensures c.reveal_invariant.ensures.fits c.reveal_invariant-2.ensures.fits) next;
    }

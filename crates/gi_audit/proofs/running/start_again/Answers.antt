use Rattle.std.proofs.Common.{◌∙◌, ap, ℕ}
use Rattle.std.proofs.lemmas.Result.{on_ok_weaker}
use Rattle.gi_world.specs.World.{after, station_of}
use Rattle.gi_world.specs.declared.step.Step.TheVariants.{Restart}
use Rattle.gi_audit.proofs.RunLemmas.{restart_is, restart_lets_nothing_out}
use Rattle.gi_audit.proofs.running.start_again.Goals as goal

pub returns-clause-next : goal.returns-clause-next
returns-clause-next c =
    let w = c.args.world.now in
    let side = c.args.side in
    on_ok_weaker c.make.result (λ next. next ∙ ap (λ (keep : ℕ). after w (Restart side keep)) c.saved-keep.ensures ∙ restart_is w side (c.requires.legal side).within) c.make.ensures.next

pub returns-clause-out : goal.returns-clause-out
returns-clause-out c =
    let w = c.args.world.now in
    let side = c.args.side in
    on_ok_weaker c.make.result
    (λ next. restart_lets_nothing_out w c.make.new.world side (station_of side w).desk.saved
    (next ∙ ap (λ (keep : ℕ). after w (Restart side keep)) c.saved-keep.ensures ∙ restart_is w side (c.requires.legal side).within)) c.make.ensures.next

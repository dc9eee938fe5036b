use Rattle.std.proofs.lemmas.Result.{on_ok_weaker}
use Rattle.std.specs.Result.{OnOk}
use Rattle.gi_audit.proofs.RunLemmas.{AreBothAgain, both_again, out_of_both}
use Rattle.gi_audit.proofs.running.start_both_again.Goals as goal

pub returns : goal.returns
returns c =
    let old = c.args.world.now in
    let new = c.start_again-2.new.world in
    let r = c.start_again-2.result in
    let both : OnOk r (AreBothAgain old new) =
    on_ok_weaker r (λ second. both_again old c.start_again.new.world new c.in_ok-start_again.ensures.next second) c.start_again-2.ensures.next in
    record {
      initiating = on_ok_weaker r (λ (is : AreBothAgain old new). is.initiating) both;
      matching = on_ok_weaker r (λ (is : AreBothAgain old new). is.matching) both;
      out = on_ok_weaker r (λ second. out_of_both old c.start_again.new.world new c.in_ok-start_again.ensures.out second) c.start_again-2.ensures.out;
      sound = c.start_again-2.ensures.sound;
    }

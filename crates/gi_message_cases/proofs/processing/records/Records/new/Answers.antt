use Rattle.std.proofs.Common.{List, sym, ap, subst}
use Rattle.gi_messages.specs.declared.message.Nomint.{Nomint}
use Rattle.gi_processing.specs.Processing.{AreSound}
use Rattle.gi_processing.proofs.SoundLaws.{sound-none}
use Rattle.gi_message_cases.proofs.processing.records.Records.new.Goals as goal

pub invariant_of-result : goal.invariant_of-result
invariant_of-result c = record {
  sound = λ day. subst (λ (documents : List Nomint). AreSound c.new.result documents day) (sym (ap (λ book. book.documents) c.new-2.ensures)) (sound-none c.new.result day);
}

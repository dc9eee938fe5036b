use Rattle.gi_message_cases.proofs.RecordsLaws.{sound_set}
use Rattle.gi_message_cases.proofs.processing.records.Records.set.Goals as goal

pub invariant_of-self : goal.invariant_of-self
invariant_of-self c =
    let old = c.args.self.now in
    record {
      sound = sound_set c.set.result old.contracts c.set.new.self c.args.contract old.book.documents c.set.ensures.reads c.set.ensures.unchanged old.sound;
    }

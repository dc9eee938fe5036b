use Rattle.gi_message_cases.proofs.RecordsLaws.{sound_noticed}
use Rattle.gi_message_cases.proofs.processing.records.Records.notice.Goals as goal

pub invariant_of-self : goal.invariant_of-self
invariant_of-self c =
    let old = c.args.self.now in
    record {
      sound = sound_noticed old.contracts c.notice.new.self old.book.documents c.notice.ensures.contracts old.sound;
    }

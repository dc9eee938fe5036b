use Rattle.gi_message_cases.proofs.RecordsLaws.{sound_taken}
use Rattle.gi_message_cases.proofs.processing.records.Records.take.Goals as goal

pub invariant_of-self : goal.invariant_of-self
invariant_of-self c =
    let old = c.args.self.now in
    record {
      sound = sound_taken c.take.result old.contracts old.book c.take.new.self c.args.nomint c.take.ensures.stands c.take.ensures.unchanged old.sound (c.judge-verdict.ensures.sound c.in-Recordable.is);
    }

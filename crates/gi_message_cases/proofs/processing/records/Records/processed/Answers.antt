use Rattle.gi_message_cases.proofs.processing.records.Records.processed.Goals as goal

pub processed-requires-clause-sound : goal.processed-requires-clause-sound
processed-requires-clause-sound c = c.args.self.now.sound c.frame-frame.result

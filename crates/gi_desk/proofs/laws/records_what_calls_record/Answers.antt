use Rattle.gi_desk.proofs.RecordingCalls.{records-what-calls-record}
use Rattle.gi_desk.proofs.laws.records_what_calls_record.Goals as goal

pub returns : goal.returns
returns c = records-what-calls-record

use Rattle.std.proofs.Common.{◌≡◌, ◌∙◌, rules}
use Rattle.gi_nominations.specs.Book.{Documents}
use Rattle.gi_nominations.specs.Judging.{verdict}
use Rattle.gi_nominations.proofs.JudgingLaws.{verdict-same}
use Rattle.gi_processing.specs.Capacity.{knows}
use Rattle.gi_processing.proofs.ReadingLaws.{reads-knows}
use Rattle.gi_desk.specs.History.{capacity_of, documents_of}
use Rattle.gi_desk.specs.Judging.{setting_of}
use Rattle.gi_desk.proofs.desk.Desk.verdict.Goals as goal

pub returns : goal.returns
returns g c =
    let s = c.args.self.now in
    let document = c.args.document.now in
    let frame : c.unwrap.result ≡ document.day = search rules in
    let known : c.knows.result ≡ knows document.portfolio document.day (capacity_of s.facts).contracts =
    c.knows.ensures ∙ reads-knows c.contracts.result.now (capacity_of s.facts) c.contracts.ensures document.portfolio document.day in
    let recorded : Documents = record { point = s.point; documents = documents_of s.facts } in
    let setting : record { frame = c.unwrap.result; known = c.knows.result; last_closed = c.last_closed.result } ≡ setting_of s.facts document =
    λ i. record { frame = frame i; known = known i; last_closed = c.last_closed.ensures i } in
    c.judge.ensures.value ∙ (λ i. verdict c.book.result.now (setting i) document)
    ∙ verdict-same c.book.result.now recorded (setting_of s.facts document) document c.book.ensures.at (c.book.ensures.nominations document.portfolio document.day)

use Rattle.std.proofs.Common.{◌≡◌, [], ◌∷◌, ◌++◌, rules}
use Rattle.gi_script.specs.LinesRepr.{left}
use Rattle.gi_script.specs.Script.{spelling}
use Rattle.gi_script.specs.Words.{NumberedLine}
use Rattle.gi_script.proofs.FurtherLemmas.{read_one}
use Rattle.gi_script.proofs.reading.further.Goals as goal

pub loop-number-preserved : goal.loop-number-preserved
loop-number-preserved c =
    let before = c.loop-number.read.items in
    let line = c.in_ok-line.line in
    let text : NumberedLine = record { number = c.in-Some.number; text = c.in-Some.text.now } in
    let pushed : c.push.new.self.items ≡ before ++ line ∷ [] = search rules in
    record {
      counted = c.next.ensures.counted;
      read = rw pushed (read_one (spelling c.args.forms) (left c.args.lines) (left c.loop-number.lines) (left c.next.new.self) before text line c.loop-number.invariant.read c.in-Some.ensures.line c.in_ok-line.ensures);
    }

use Rattle.std.proofs.lemmas.List.Elements.{All-more}
use Rattle.gi_desk.specs.Writable.{FitsButPriority}
use Rattle.gi_desk.proofs.ranges.reveal_lines.Goals as goal

pub loop-line-preserved : goal.loop-line-preserved
loop-line-preserved c =
    let fits : FitsButPriority c.line-item.result = record { counterparty = c.reveal_invariant.ensures; quantities = c.reveal_invariant-in-loop-line.ensures } in
    All-more FitsButPriority c.args.lines.now c.loop-line.line-index c.line-item.result c.loop-line-test.true c.loop-line.invariant (rw (← c.line-item.is) fits)

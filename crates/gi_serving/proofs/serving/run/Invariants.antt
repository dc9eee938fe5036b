use Rattle.std.proofs.Common.{◌≡◌, ◌≤◌, ◌-◌, length}
use Rattle.gi_serving.specs.Ending.{AreSamePlaces}
use Rattle.gi_serving.specs.Faulting.{BothGoWell}
use Rattle.gi_serving.specs.Making.{WritesTo, offices_of}
use Rattle.gi_pairs.specs.declared.side.Side.TheVariants.{I, M}
use Rattle.gi_serving.proofs.serving.run.Given as goal

abbrev pub invariant-loop-at : goal.invariant-loop-at
invariant-loop-at g l = record {
  within : l.at ≤ length l.fn.lines;
  sessions : l.both.sessions ≡ l.initial.both.sessions;
  ours : AreSamePlaces l.initial.both.initiating.seats.items l.both.initiating.seats.items;
  theirs : AreSamePlaces l.initial.both.matching.seats.items l.both.matching.seats.items;
  well : BothGoWell (g.B.Turns.takes I) (g.C.Turns.takes M) l.initial.both.initiating.book l.initial.both.matching.book l.both.initiating.book l.both.matching.book;
  watched : g.V.Watch.told l.watch ≡ l.at;
  counted : g.V.Watch.whole l.watch ≡ length l.fn.lines;
  written :
      WritesTo l.initial.both.sessions l.fn.lines l.at (offices_of l.initial.both.initiating l.initial.both.matching)
      (g.O.Write.contents l.initial.output) (g.O.Write.contents l.output) (offices_of l.both.initiating l.both.matching);
}

abbrev pub decreases-loop-at : goal.decreases-loop-at
decreases-loop-at g l = length l.fn.lines - l.at

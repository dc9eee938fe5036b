use Rattle.std.proofs.Common.{◌≤◌, ◌*◌, ◌^◌, None}
use Rattle.std.specs.Io.Buffered.{reader_remaining}
use Rattle.gi_live.specs.Lines.{lines_left}
use Rattle.gi_live.specs.Stretches.{GoesTo, IsPaused, pause}
use Rattle.gi_live.proofs.living.run_parts.Given as goal

abbrev pub invariant-loop : goal.invariant-loop
invariant-loop g l = record {
  paused : IsPaused l.desk;
  few : l.taken ≤ 2 ^ 31 * l.counter;
  goes : GoesTo g.R.Role.SIDE (pause l.initial.desk 0) (lines_left None (reader_remaining g.I.Read.remaining l.initial.input)) (lines_left l.kept (reader_remaining g.I.Read.remaining l.input))
      (g.O.Write.contents l.initial.output) (g.O.Write.contents l.output) (pause l.desk l.taken);
}

use Rattle.std.proofs.Common.{◌≡◌, ◌≤◌, ◌*◌, ◌+◌}
use Rattle.std.specs.Io.Buffered.{reader_remaining}
use Rattle.gi_serving.specs.Ending.{place_of}
use Rattle.gi_live.specs.Lines.{lines_left}
use Rattle.gi_live.specs.Running.{HasRoom, RunsTo, live}
use Rattle.gi_live.proofs.running.run.Given as goal

abbrev pub invariant-loop : goal.invariant-loop
invariant-loop g l = record {
  place : place_of l.seat ≡ place_of l.initial.seat;
  few : l.taken ≤ l.before + 64 * l.counter;
  runs : RunsTo g.R.Role.SIDE (live l.initial.seat l.initial.saved l.before) (lines_left l.initial.kept (reader_remaining g.I.Read.remaining l.initial.input))
      (lines_left l.kept (reader_remaining g.I.Read.remaining l.input)) (g.O.Outlet.told l.initial.output) (g.O.Outlet.told l.output) (live l.seat l.saved l.taken);
  room : HasRoom l.seat;
}

use Rattle.std.proofs.Common.{◌≡◌, take}
use Rattle.gi_serving.specs.Ending.{place_of}
use Rattle.gi_live.specs.Coming.{ComeAll}
use Rattle.gi_live.proofs.asking.ask_all.Given as goal

abbrev pub invariant-loop-line : goal.invariant-loop-line
invariant-loop-line g l = record {
  place : place_of l.seat ≡ place_of l.initial.seat;
  came : ComeAll g.R.Role.SIDE l.initial.seat (take l.line-index l.lines) l.cames.items l.seat;
}

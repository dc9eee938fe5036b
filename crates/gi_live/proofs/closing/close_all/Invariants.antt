use Rattle.std.proofs.Common.{◌≡◌, length, take}
use Rattle.gi_serving.specs.Ending.{place_of}
use Rattle.gi_live.proofs.Closings.{Partly}
use Rattle.gi_live.proofs.closing.close_all.Given as goal

abbrev pub invariant-loop-id : goal.invariant-loop-id
invariant-loop-id g l = record {
  place : place_of l.seat ≡ place_of l.initial.seat;
  closed : Partly g.R.Role.SIDE l.initial.seat (length l.ids) (take l.id-index l.ids) l.cames.items l.seat;
}

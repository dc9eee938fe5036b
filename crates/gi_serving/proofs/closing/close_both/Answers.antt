use Rattle.std.proofs.Common.{IfOk, ℕ, List, Result, Ok, Err, string_bytes}
use Rattle.gi_pairs.specs.declared.side.Side.TheVariants.{I, M}
use Rattle.gi_office.specs.Keeping.{SeatState}
use Rattle.gi_office.specs.Settling.{SettledState, SettlesKept}
use Rattle.gi_office.specs.declared.unsettled.Unsettled.{Unsettled}
use Rattle.gi_serving.specs.Closing.{AreLastLines, IsClosed}
use Rattle.gi_serving.specs.declared.closing.Closed.{Closed}
use Rattle.gi_serving.proofs.closing.close_both.Goals as goal

-- the last lines of two offices that settled so are those of the two
of_both : {E : Type 0} (parts seats : ℕ) (handed : List SeatState) (peer_parts peer_seats : ℕ) (peer_handed : List SeatState)
    → (initiating matching : Result SettledState Unsettled)
    → SettlesKept I parts seats handed initiating → SettlesKept M peer_parts peer_seats peer_handed matching
    → (r : Result Closed E) → IfOk r (λ closed. AreLastLines initiating matching (string_bytes closed.text) closed.end)
    → IfOk r (λ closed. IsClosed parts seats handed peer_parts peer_seats peer_handed (string_bytes closed.text) closed.end)
of_both parts seats handed peer_parts peer_seats peer_handed initiating matching ours theirs (Ok closed) last = record {
  initiating = initiating;
  matching = matching;
  initiating_settles = ours;
  matching_settles = theirs;
  last = last;
}
of_both parts seats handed peer_parts peer_seats peer_handed initiating matching ours theirs (Err fault) last = tt

pub returns : goal.returns
returns g c =
    of_both g.L.Ledger.parts c.args.initiating.seats c.args.seats.items g.K.Ledger.parts c.args.matching.seats c.args.peer_seats.items
    c.settle-initiating.result c.settle-matching.result c.settle-initiating.ensures c.settle-matching.ensures
    c.last_lines_of.result c.last_lines_of.ensures

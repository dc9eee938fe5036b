use Rattle.std.proofs.Common.{◌&&◌, Bool, nat_le, length, ap, sym}
use Rattle.gi_pairs.specs.Limits.{most_processed_rows}
use Rattle.gi_desk.proofs.Called.{unmet-unclosed}
use Rattle.gi_desk.proofs.desk.Desk.would_meet.Goals as goal

pub returns-in-None : goal.returns-in-None
returns-in-None g c =
    ap (λ (b : Bool). b && nat_le (length c.args.peer.now.rows) most_processed_rows)
    (sym (unmet-unclosed g.R.Role.SIDE c.args.self.now.facts c.args.id.now c.args.peer.now c.in-None.ensures))

use Rattle.std.proofs.Common.{◌≡◌, ◌≢◌, [], rules, subst, sym}
use Rattle.gi_pairs.specs.declared.side.Side.{Side}
use Rattle.gi_pairs.specs.declared.side.Side.TheVariants.{I}
use Rattle.gi_desk.specs.LetOut.{frozen_of}
use Rattle.gi_desk.specs.Messages.{on_closed}
use Rattle.gi_desk.proofs.Called.{if_failed}
use Rattle.gi_desk.proofs.PartsOfTables.{orders-some}
use Rattle.gi_desk.proofs.fact_packets.on_closed_again.Goals as goal

pub returns-in_err-frozen-clause-short : goal.returns-in_err-frozen-clause-short
returns-in_err-frozen-clause-short g c =
    let initiates : g.R.Role.SIDE ≡ I = search rules in
    let cycle = frozen_of c.args.cycle.now in
    if_failed c.from_residual.result (subst (λ (side : Side). on_closed side c.args.point cycle ≢ []) (sym initiates) (orders-some c.args.point cycle))

use Rattle.std.proofs.Common.{arith}
use Rattle.gi_office.proofs.Standing.{goes_on_count}
use Rattle.gi_office.proofs.writing.goes_on_by.Goals.{then-all-saved-via-then-all-saved, then-all-saved-via-else-all-saved+then-facts-all}
use Rattle.gi_office.proofs.writing.goes_on_by.Goals as goal

pub returns-then-all-saved-clause-others : goal.returns-then-all-saved-clause-others
returns-then-all-saved-clause-others c none count goes =
    let long = goes_on_count c.args.n c.args.facts.now c.args.all.now count goes in
    elim c.then-all-saved.branch [
      | then-all-saved-via-then-all-saved w ↦ omega (arith, long, goes.some, w.if-all-saved.true)
      | then-all-saved-via-else-all-saved+then-facts-all w ↦ omega (arith, long, goes.within, w.if-facts-all.true)
    ]

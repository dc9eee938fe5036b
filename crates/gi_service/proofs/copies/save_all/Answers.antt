use Rattle.std.proofs.Common.{◌≡◌, ◌+◌, Some, refl, rules}
use Rattle.sqlite.specs.Held.{state}
use Rattle.gi_desk.specs.Queries.{fact_at}
use Rattle.gi_service.proofs.Copied.{copied_more}
use Rattle.gi_service.proofs.copies.save_all.Goals as goal

pub loop-before-preserved : goal.loop-before-preserved
loop-before-preserved g c =
    let at = c.loop-before in
    let saved = c.in_ok-save_next.ensures in
    let facts = c.args.desk.now.facts in
    let fact = c.unwrap-fact.result.now in
    let found : fact_at facts (at.before + 1) ≡ Some fact = search rules in
    let old = state g.S.Store at.book.connection in
    let new = state g.S.Store c.save_next.new.self.connection in
    record {
      loaded = saved.loaded;
      early = λ clean. at.invariant.early (c.save_next.ensures.early clean);
      copied = λ clean none.
          let copy = at.invariant.copied (c.save_next.ensures.early clean) none in
          copied_more facts at.before (at.before + 1) fact old new refl found (saved.saved clean).is_open (saved.facts clean) copy;
    }

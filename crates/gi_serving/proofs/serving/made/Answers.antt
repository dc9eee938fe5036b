use Rattle.std.proofs.Common.{rules, ◌≡◌, string_bytes}
use Rattle.std.proofs.lemmas.Result.{IfOk-weaker}
use Rattle.gi_serving.specs.Making.{offices_of}
use Rattle.gi_pairs.specs.declared.side.Side.TheVariants.{I, M}
use Rattle.gi_serving.specs.Faulting.{BothGoWell}
use Rattle.gi_serving.proofs.Faulting.{both_kept, on_ok, tells_short}
use Rattle.gi_serving.proofs.Walking.{first_single}
use Rattle.gi_serving.proofs.serving.made.Goals as goal

pub returns-then-batch-eq0-clause-made : goal.returns-then-batch-eq0-clause-made
returns-then-batch-eq0-clause-made g c =
    let none : c.args.batch ≡ 0 = search rules in
    let old = c.args.both.now in
    let new = c.line.new.self in
    IfOk-weaker c.line.result _ _
    (λ text h. first_single old.sessions c.index-lines-0.result c.args.lines.now c.args.batch (offices_of old.initiating old.matching) (string_bytes text) (offices_of new.initiating new.matching)
    c.requires.some c.index-lines-0.is c.requires.batch none h)
    c.line.ensures.made

pub returns-then-batch-eq0-clause-well : goal.returns-then-batch-eq0-clause-well
returns-then-batch-eq0-clause-well g c =
    let old = c.args.both.now in
    let new = c.line.new.self in
    on_ok (BothGoWell (g.B.Turns.takes I) (g.C.Turns.takes M) old.initiating.book old.matching.book new.initiating.book new.matching.book) c.line.result
    (both_kept (g.B.Turns.takes I) (g.C.Turns.takes M) old.initiating.book new.initiating.book old.matching.book new.matching.book c.line.ensures.book c.line.ensures.peer_book)

pub returns-then-batch-eq0-clause-tells : goal.returns-then-batch-eq0-clause-tells
returns-then-batch-eq0-clause-tells g c =
    let old = c.args.both.now in
    let new = c.line.new.self in
    tells_short (g.B.Turns.takes I) (g.C.Turns.takes M) old.initiating.book new.initiating.book old.matching.book new.matching.book c.line.result c.line.ensures.cut
    (both_kept (g.B.Turns.takes I) (g.C.Turns.takes M) old.initiating.book new.initiating.book old.matching.book new.matching.book c.line.ensures.book c.line.ensures.peer_book)

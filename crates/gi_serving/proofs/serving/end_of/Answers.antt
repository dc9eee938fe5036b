use Rattle.std.proofs.Common.{ℕ, length, ap, ◌∙◌, subst}
use Rattle.gi_serving.specs.Ending.{Closes}
use Rattle.gi_serving.specs.Making.{OfficesState, offices_of}
use Rattle.gi_pairs.specs.declared.side.Side.TheVariants.{I, M}
use Rattle.gi_serving.proofs.Faulting.{of_turns}
use Rattle.gi_serving.proofs.Endings.{closed_so, ends, ends_early, new_length}
use Rattle.gi_serving.proofs.serving.end_of.Goals as goal

pub run-requires-clause-ours : goal.run-requires-clause-ours
run-requires-clause-ours g c κs within = ap (λ (s : OfficesState). length s.initiating.seats) c.requires.new ∙ new_length c.args.both.sessions

pub run-requires-clause-theirs : goal.run-requires-clause-theirs
run-requires-clause-theirs g c κs within = ap (λ (s : OfficesState). length s.matching.seats) c.requires.new ∙ new_length c.args.both.sessions

pub returns-in-Ok-clause-ends : goal.returns-in-Ok-clause-ends
returns-in-Ok-clause-ends g c =
    let start = offices_of c.args.both.initiating c.args.both.matching in
    let reached = offices_of c.run.new.both.initiating c.run.new.both.matching in
    let before = g.O.Write.contents c.args.output.now in
    let between = g.O.Write.contents c.run.new.output in
    let after = g.O.Write.contents c.closed.new.output in
    ends c.args.both.sessions g.L.Ledger.parts g.K.Ledger.parts (g.V.Watch.told c.run.new.watch) c.args.lines.now start reached before between after c.closed.result
    c.requires.new c.requires.parts c.requires.peer_parts c.in-Ok.ensures.ours c.in-Ok.ensures.theirs c.in-Ok.ensures.over c.in-Ok.ensures.whole
    (subst (λ (n : ℕ). Closes g.L.Ledger.parts g.K.Ledger.parts n reached between after c.closed.result) c.in-Ok.ensures.sessions c.closed.ensures)

pub returns-in-Err-clause-ends : goal.returns-in-Err-clause-ends
returns-in-Err-clause-ends g c =
    ends_early c.args.both.sessions (g.V.Watch.told c.run.new.watch) c.args.lines.now (offices_of c.args.both.initiating c.args.both.matching)
    (g.O.Write.contents c.args.output.now) (g.O.Write.contents c.run.new.output) c.in-Err.fault
    c.requires.new c.in-Err.ensures.early (λ of_turn. c.in-Err.ensures.left) c.in-Err.ensures.leaves

pub returns-in-Err-clause-all : goal.returns-in-Err-clause-all
returns-in-Err-clause-all g c = λ no. absurd (no c.in-Err.ensures.early)

pub returns-in-Ok-clause-turn : goal.returns-in-Ok-clause-turn
returns-in-Ok-clause-turn g c =
    closed_so (g.B.Turns.takes I) (g.C.Turns.takes M) c.args.both.initiating.book c.args.both.matching.book c.run.new.both.sessions g.L.Ledger.parts g.K.Ledger.parts
    (offices_of c.run.new.both.initiating c.run.new.both.matching) (g.O.Write.contents c.run.new.output) (g.O.Write.contents c.closed.new.output) c.closed.result c.closed.ensures

pub returns-in-Err-clause-turn : goal.returns-in-Err-clause-turn
returns-in-Err-clause-turn g c =
    of_turns (g.B.Turns.takes I) (g.C.Turns.takes M) c.args.both.initiating.book c.run.new.both.initiating.book c.args.both.matching.book c.run.new.both.matching.book c.in-Err.fault
    c.in-Err.ensures.tells

use Rattle.std.proofs.Common.{IfErr, inl, ℕ, subst}
use Rattle.gi_serving.specs.Ending.{Ends}
use Rattle.gi_pairs.specs.declared.side.Side.TheVariants.{I, M}
use Rattle.gi_serving.specs.Faulting.{IsOfTurns}
use Rattle.gi_serving.proofs.Endings.{none_ends}
use Rattle.gi_serving.proofs.serving.serve_by.Goals as goal

pub returns-in-Err-clause-ends : goal.returns-in-Err-clause-ends
returns-in-Err-clause-ends g c =
    none_ends c.args.sessions (g.V.Watch.told c.args.watch.now) c.args.lines.now (g.O.Write.contents c.args.output.now) c.requires.begun

pub returns-in-Ok-clause-ends : goal.returns-in-Ok-clause-ends
returns-in-Ok-clause-ends g c =
    subst (λ (n : ℕ). Ends n c.args.lines.now (g.V.Watch.told c.end_of.new.watch) (g.O.Write.contents c.args.output.now) (g.O.Write.contents c.end_of.new.output) c.end_of.result)
    c.in-Ok.ensures.sessions c.end_of.ensures.ends

pub returns-in-Err-clause-all : goal.returns-in-Err-clause-all
returns-in-Err-clause-all g c = λ no. absurd (no (inl tt))

pub returns-in-Ok-clause-turn : goal.returns-in-Ok-clause-turn
returns-in-Ok-clause-turn g c =
    subst (λ (b : _). IfErr c.end_of.result (IsOfTurns (g.B.Turns.takes I) (g.C.Turns.takes M) b c.args.matching.book)) c.in-Ok.ensures.book
    (subst (λ (b : _). IfErr c.end_of.result (IsOfTurns (g.B.Turns.takes I) (g.C.Turns.takes M) c.in-Ok.both.initiating.book b)) c.in-Ok.ensures.peer_book c.end_of.ensures.turn)

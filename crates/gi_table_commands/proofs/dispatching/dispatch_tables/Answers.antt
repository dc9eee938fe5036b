use Rattle.std.proofs.Common.{map, Result, sym, subst}
use Rattle.std.specs.Prelude.{IfErr}
use Rattle.gi_command_line.specs.CommandLine.{asked}
use Rattle.gi_table_commands.specs.Tables.{IsTablesFault}
use Rattle.gi_table_commands.specs.declared.fault.Fault.{Fault}
use Rattle.gi_table_commands.proofs.Unasked.{may_leave, may_want, memory_alone, no_command}
use Rattle.gi_table_commands.proofs.dispatching.dispatch_tables.Goals as goal

pub returns-in-Err-clause-first : goal.returns-in-Err-clause-first
returns-in-Err-clause-first g c = λ none.
    let wanted = asked (map g.S.AsStr.text c.args.words.now) in
    let remaining = g.R.Read.remaining c.args.input.now in
    let is = c.explain.ensures.memory (memory_alone _ c.in-Err.said c.in-Err.ensures.refused none) in
    subst (λ (r : Result (Unit {0}) Fault). IfErr r (IsTablesFault wanted remaining)) (sym is) (may_want wanted remaining)

pub returns-in-Err-clause-unread : goal.returns-in-Err-clause-unread
returns-in-Err-clause-unread g c = λ none. may_leave (asked (map g.S.AsStr.text c.args.words.now)) (g.R.Read.remaining c.args.input.now)

pub returns-in-Err-clause-mistaken : goal.returns-in-Err-clause-mistaken
returns-in-Err-clause-mistaken g c =
    no_command (map g.S.AsStr.text c.args.words.now) c.in-Err.said c.explain.result c.in-Err.ensures.refused c.explain.ensures.memory c.explain.ensures.gives_up

use Rattle.std.proofs.Common.{map, Result, sym, subst}
use Rattle.std.specs.Prelude.{IfErr}
use Rattle.gi_command_line.specs.CommandLine.{asked}
use Rattle.gi_service.specs.Tasks.{IsEndFault, LeavesEnd}
use Rattle.gi_service.specs.declared.program_fault.ProgramFault.{ProgramFault}
use Rattle.gi_table_commands.proofs.Unasked.{memory_alone}
use Rattle.gi_service.proofs.Unasked.{may_keep, may_leave, may_want, no_command}
use Rattle.gi_service.proofs.dispatching.dispatch_command.Goals as goal

pub returns-in-Err-clause-first : goal.returns-in-Err-clause-first
returns-in-Err-clause-first g c = λ none.
    let wanted = asked (map g.S.AsStr.text c.args.words.now) in
    let books = g.B.BookSource.gives c.args.books.now in
    let remaining = c.args.input.now in
    let is = c.explain.ensures.memory (memory_alone _ c.in-Err.said c.in-Err.ensures.refused none) in
    subst (λ (r : Result (Unit {0}) ProgramFault). IfErr r (IsEndFault books wanted remaining c.explain.new.output)) (sym is) (may_want books wanted remaining)

pub returns-in-Err-clause-leaves : goal.returns-in-Err-clause-leaves
returns-in-Err-clause-leaves g c = λ none.
    let wanted = asked (map g.S.AsStr.text c.args.words.now) in
    let books = g.B.BookSource.gives c.args.books.now in
    let remaining = c.args.input.now in
    let old = c.args.output.now in
    let new = c.explain.new.output in
    let is = c.explain.ensures.memory (memory_alone _ c.in-Err.said c.in-Err.ensures.refused none) in
    subst (λ (r : Result (Unit {0}) ProgramFault). IfErr r (LeavesEnd books wanted remaining old new)) (sym is) (may_keep books wanted remaining old new (rw is at c.explain.ensures.leaves))

pub returns-in-Err-clause-unread : goal.returns-in-Err-clause-unread
returns-in-Err-clause-unread g c = λ none. may_leave (asked (map g.S.AsStr.text c.args.words.now)) c.args.input.now

pub returns-in-Err-clause-mistaken : goal.returns-in-Err-clause-mistaken
returns-in-Err-clause-mistaken g c =
    no_command (map g.S.AsStr.text c.args.words.now) c.in-Err.said c.explain.result c.in-Err.ensures.refused c.explain.ensures.memory c.explain.ensures.gives_up

use Rattle.std.proofs.Common.{◌≡◌, ◌<◌, [], arith, subst, sym, inl, refl, false, true, OnOk, ◌∙◌, ◌+◌, length}
use Rattle.std.specs.List.{list_any}
use Rattle.std.specs.Io.Buffered.{reader_remaining}
use Rattle.std.proofs.lemmas.Grind.{common_steps}
use Rattle.gi_live.specs.Lines.{TakesLines, is_halt, is_query, lines_left}
use Rattle.gi_live.specs.Running.{RunsTo, WritesStep, has_halted, live}
use Rattle.gi_live.specs.declared.live_fault.LiveFault.TheVariants as faults
use Rattle.gi_live.proofs.LineLemmas.{halt_alone, query_alone}
use Rattle.gi_live.proofs.Runnings.{more_run, none_taken, until_asked, until_full, until_input}
use Rattle.gi_live.proofs.running.run.Goals as goal

pub returns-in-Err-clause-some : goal.returns-in-Err-clause-some
returns-in-Err-clause-some g c =
    none_taken g.R.Role.SIDE (live c.args.seat c.args.saved c.args.before) _ _ _ _ (live c.loop.seat c.loop.saved c.loop.taken) c.in-Err.fault c.loop.invariant.runs c.in-Err.ensures.fault

pub returns-then-has_halted-clause-some : goal.returns-then-has_halted-clause-some
returns-then-has_halted-clause-some g c =
    none_taken g.R.Role.SIDE (live c.args.seat c.args.saved c.args.before) _ _ _ _ (live c.loop.seat c.loop.saved c.loop.taken) faults.Read c.loop.invariant.runs (inl refl)

pub asked-requires : goal.asked-requires
asked-requires g c =
    c.in_default.ensures.alone (query_alone c.next_lines.new.lines.items
    (subst (λ ls. list_any is_query ls ≡ true) c.deref.ensures.value (sym c.has_query.ensures ∙ c.if-has_query.true)))

pub step-back-requires-clause-halts : goal.step-back-requires-clause-halts
step-back-requires-clause-halts g c =
    λ halt. subst (λ ls. length ls ≡ 1) (sym c.deref-in-loop.ensures.value)
    (c.in_default.ensures.alone (halt_alone c.next_lines.new.lines.items (subst (λ ls. list_any is_halt ls ≡ true) c.deref-in-loop.ensures.value halt)))

pub returns-then-is_empty-clause-until : goal.returns-then-is_empty-clause-until
returns-then-is_empty-clause-until g c =
    let left = lines_left c.loop.kept (reader_remaining g.I.Read.remaining c.loop.input) in
    let rest = lines_left c.next_lines.new.kept (reader_remaining g.I.Read.remaining c.next_lines.new.input) in
    let none : c.next_lines.new.lines.items ≡ [] = grind (arith, common_steps, c.is_empty.ensures, c.if-is_empty.true, c.next_lines.new.lines.ok) in
    until_input g.R.Role.SIDE (live c.args.seat c.args.saved c.args.before) (lines_left c.args.kept.now (reader_remaining g.I.Read.remaining c.args.input.now)) left rest
    (g.O.Outlet.told c.args.output.now) (g.O.Outlet.told c.loop.output) c.loop.seat c.loop.saved c.loop.taken c.loop.invariant.runs (c.in_default.ensures.end none)
    (subst (λ ls. TakesLines left ls rest) none c.in_default.ensures.taken)

pub returns-then-not-has_halted-clause-until : goal.returns-then-not-has_halted-clause-until
returns-then-not-has_halted-clause-until g c =
    let left = lines_left c.loop.kept (reader_remaining g.I.Read.remaining c.loop.input) in
    let rest = lines_left c.next_lines.new.kept (reader_remaining g.I.Read.remaining c.next_lines.new.input) in
    let query : list_any is_query c.next_lines.new.lines.items ≡ true =
    subst (λ ls. list_any is_query ls ≡ true) c.deref.ensures.value (sym c.has_query.ensures ∙ c.if-has_query.true) in
    until_asked g.R.Role.SIDE (live c.args.seat c.args.saved c.args.before) (lines_left c.args.kept.now (reader_remaining g.I.Read.remaining c.args.input.now)) left rest
    (g.O.Outlet.told c.args.output.now) (g.O.Outlet.told c.loop.output) c.loop.seat c.loop.saved c.loop.taken c.next_lines.new.lines.items c.asked.result
    c.loop.invariant.runs c.in_default.ensures.taken query c.asked.ensures
    (subst (λ ns. has_halted ns ≡ false) c.notes.ensures.notes (sym c.has_halted.ensures ∙ c.if-not-has_halted.true))

pub returns-then-is_full-clause-until : goal.returns-then-is_full-clause-until
returns-then-is_full-clause-until g c =
    let side = g.R.Role.SIDE in
    let old = live c.args.seat c.args.saved c.args.before in
    let reached = live c.loop.seat c.loop.saved c.loop.taken in
    let input = lines_left c.args.kept.now (reader_remaining g.I.Read.remaining c.args.input.now) in
    let left = lines_left c.loop.kept (reader_remaining g.I.Read.remaining c.loop.input) in
    let rest = lines_left c.next_lines.new.kept (reader_remaining g.I.Read.remaining c.next_lines.new.input) in
    let first = g.O.Outlet.told c.args.output.now in
    let before = g.O.Outlet.told c.loop.output in
    let after = g.O.Outlet.told c.step-back.new.output in
    let lines = c.next_lines.new.lines.items in
    let seat = c.step-back.result.0 in
    let saved = c.step-back.result.1 in
    let taken = c.loop.taken in
    let count : c.len.result ≡ length lines = grind (arith, c.len.ensures, c.next_lines.new.lines.ok) in
    let made : WritesStep side reached c.deref-in-loop.result.now before after (live seat saved (taken + length c.deref-in-loop.result.now)) =
    subst (λ result. OnOk result (WritesStep side reached c.deref-in-loop.result.now before after (live seat saved (taken + length c.deref-in-loop.result.now)))) c.in_default-end.is c.step-back.ensures.steps in
    let step : WritesStep side reached lines before after (live seat saved (taken + length lines)) =
    subst (λ ls. WritesStep side reached ls before after (live seat saved (taken + length ls))) c.deref-in-loop.ensures.value made in
    until_full side old input rest first after seat saved (taken + c.len.result)
    (subst (λ n. RunsTo side old input rest first after (live seat saved (taken + n))) (sym count)
    (more_run side old input left first before reached lines rest after (live seat saved (taken + length lines)) c.loop.invariant.runs c.in_default.ensures.taken step))
    (subst (λ ns. has_halted ns ≡ false) c.notes-in-loop.ensures.notes (c.is_full.ensures.runs c.if-is_full.true))

pub loop-preserved : goal.loop-preserved
loop-preserved g c =
    let side = g.R.Role.SIDE in
    let old = live c.args.seat c.args.saved c.args.before in
    let reached = live c.loop.seat c.loop.saved c.loop.taken in
    let input = lines_left c.args.kept.now (reader_remaining g.I.Read.remaining c.args.input.now) in
    let left = lines_left c.loop.kept (reader_remaining g.I.Read.remaining c.loop.input) in
    let rest = lines_left c.next_lines.new.kept (reader_remaining g.I.Read.remaining c.next_lines.new.input) in
    let first = g.O.Outlet.told c.args.output.now in
    let before = g.O.Outlet.told c.loop.output in
    let after = g.O.Outlet.told c.step-back.new.output in
    let lines = c.next_lines.new.lines.items in
    let seat = c.step-back.result.0 in
    let saved = c.step-back.result.1 in
    let taken = c.loop.taken in
    let count : c.len.result ≡ length lines = grind (arith, c.len.ensures, c.next_lines.new.lines.ok) in
    let made : WritesStep side reached c.deref-in-loop.result.now before after (live seat saved (taken + length c.deref-in-loop.result.now)) =
    subst (λ result. OnOk result (WritesStep side reached c.deref-in-loop.result.now before after (live seat saved (taken + length c.deref-in-loop.result.now)))) c.in_default-end.is c.step-back.ensures.steps in
    let step : WritesStep side reached lines before after (live seat saved (taken + length lines)) =
    subst (λ ls. WritesStep side reached ls before after (live seat saved (taken + length ls))) c.deref-in-loop.ensures.value made in
    record {
      place = c.step-back.ensures.place ∙ c.loop.invariant.place;
      few = omega (arith, c.loop.invariant.few, c.in_default.ensures.few, count);
      runs = subst (λ n. RunsTo side old input rest first after (live seat saved (taken + n))) (sym count)
          (more_run side old input left first before reached lines rest after (live seat saved (taken + length lines)) c.loop.invariant.runs c.in_default.ensures.taken step);
      room = subst (λ ns. has_halted ns ≡ false → length ns < 100_000) c.notes-in-loop.ensures.notes (c.is_full.ensures.room c.if-is_full.false);
    }

use Rattle.std.proofs.Common.{◌≡◌, inl, arith, sym, length-drop, length, drop, ◌-◌, ◌+◌, ◌≤◌, ◌<◌}
use Rattle.std.proofs.lemmas.List.{take_all}
use Rattle.std.proofs.lemmas.Bool.Decides.{nat_tests}
use Rattle.gi_text.proofs.LineLemmas.{lines-empty, lines-ended, lines-none, lines-unended}
use Rattle.gi_text.proofs.lines.split_line.Goals as goal

pub returns-then-is_empty-clause-lines : goal.returns-then-is_empty-clause-lines
returns-then-is_empty-clause-lines c =
    let none : length c.args.text.now ≡ 0 = grind (arith, nat_tests) in
    lines-none c.args.text.now none

pub returns-in-Some-clause-lines : goal.returns-in-Some-clause-lines
returns-in-Some-clause-lines c =
    let rest = drop (c.in-Some.at + 1) c.args.text.now in
    let all : length rest ≤ length c.args.text.now - (c.in-Some.at + 1) = omega (arith, length-drop (c.in-Some.at + 1) c.args.text.now) in
    rw (take_all _ rest all) (lines-ended c.args.text.now c.in-Some.at (sym c.in-Some.ensures)).0

pub returns-in-None-clause-lines : goal.returns-in-None-clause-lines
returns-in-None-clause-lines c =
    let some : 0 < length c.args.text.now = grind (arith, nat_tests) in
    rw lines-empty (lines-unended c.args.text.now some (sym c.in-None.ensures))

pub returns-in-Some-clause-rest : goal.returns-in-Some-clause-rest
returns-in-Some-clause-rest c =
    let rest = drop (c.in-Some.at + 1) c.args.text.now in
    let all : length rest ≤ length c.args.text.now - (c.in-Some.at + 1) = omega (arith, length-drop (c.in-Some.at + 1) c.args.text.now) in
    inl (rw (take_all _ rest all) (lines-ended c.args.text.now c.in-Some.at (sym c.in-Some.ensures)).1)

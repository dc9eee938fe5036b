use Rattle.std.proofs.Common.{◌≡◌, sym, true, arith, rules, tests}
use Rattle.gi_command_line.specs.Numbers.{is_number}
use Rattle.gi_command_line.proofs.Numerals.{too_great}
use Rattle.gi_command_line.proofs.numbers.number_up_to.Goals as goal

pub returns-in_default-2-clause-value : goal.returns-in_default-2-clause-value
returns-in_default-2-clause-value c =
    let is : is_number c.args.word.now ≡ true = search (rules, tests) in
    sym (too_great c.args.most c.args.word.now c.parse.result _ (omega (arith, c.ranges.most.fits)) c.parse.ensures.value.0 c.in_default.is is)

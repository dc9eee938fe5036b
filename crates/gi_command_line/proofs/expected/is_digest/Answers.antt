use Rattle.std.proofs.Common.{rules, tests}
use Rattle.std.proofs.lemmas.Iterator.{YieldsList-from_slice}
use Rattle.std.proofs.lemmas.Iterator.Search.{all_from_yields_List}
use Rattle.gi_command_line.specs.Expected.{is_hexadecimal}
use Rattle.gi_command_line.proofs.expected.is_digest.Goals as goal

pub returns-then-text-eq64 : goal.returns-then-text-eq64
returns-then-text-eq64 c =
    let all = all_from_yields_List is_hexadecimal _ _ c.all.result c.all.ensures.ran (YieldsList-from_slice c.args.text.now cc) (λ x b q k. search (rules, tests)) in
    search rules

use Rattle.std.proofs.Common.{rules, string_bytes}
use Rattle.gi_serving.proofs.Endings.{reconciled_so}
use Rattle.gi_serving.proofs.closing.reconciled.Goals as goal

pub returns : goal.returns
returns c =
    reconciled_so (string_bytes c.args.lines) (string_bytes c.in_ok-line.line) (string_bytes c.in_ok-text.text) c.args.initiating.now c.args.matching.now _ c.end_of.result
    (search rules) (search rules) c.desk.ensures.legal c.desk-2.ensures.legal c.in_ok-line.ensures c.in_ok-text.ensures.ok c.end_of.ensures

use Rattle.std.proofs.Common.{ap, ◌∙◌}
use Rattle.gi_pairs.specs.Pair.{code_at}
use Rattle.gi_pairs.specs.declared.side.Side.{Side}
use Rattle.gi_desk.specs.History.{is_closing}
use Rattle.gi_explanations.proofs.NumberLemmas.{end-is, numbers-are}
use Rattle.gi_explanations.proofs.numbers.Numbers.of.Goals as goal

pub last-nomination-requires : goal.last-nomination-requires
last-nomination-requires g c =
    (end-is (is_closing c.args.question.now.id) c.args.desk.now.facts c.first-closing.result c.len.result c.count_before-end.result
    c.first-closing.ensures c.len.ensures c.count_before-end.ensures).within

pub last-contract-requires : goal.last-contract-requires
last-contract-requires g c =
    (end-is (is_closing c.args.question.now.id) c.args.desk.now.facts c.first-closing.result c.len.result c.count_before-end.result
    c.first-closing.ensures c.len.ensures c.count_before-end.ensures).within

pub last-notice-requires : goal.last-notice-requires
last-notice-requires g c =
    (end-is (is_closing c.args.question.now.id) c.args.desk.now.facts c.first-closing.result c.len.result c.count_before-end.result
    c.first-closing.ensures c.len.ensures c.count_before-end.ensures).within

pub returns : goal.returns
returns g c =
    let ends = end-is (is_closing c.args.question.now.id) c.args.desk.now.facts c.first-closing.result c.len.result c.count_before-end.result
    c.first-closing.ensures c.len.ensures c.count_before-end.ensures in
    numbers-are g.R.Role.SIDE c.args.desk.now.facts c.args.question.now c.at-own.result c.count_before-end.result
    c.last-nomination.result c.last-contract.result c.last-notice.result c.first-closing.result c.first-meeting.result
    (c.at-own.ensures ∙ ap (λ (side : Side). code_at side c.args.question.now.pair) c.SIDE.ensures) ends c.last-nomination.ensures c.last-contract.ensures c.last-notice.ensures c.first-closing.ensures c.first-meeting.ensures

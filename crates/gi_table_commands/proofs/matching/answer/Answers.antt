use Rattle.std.proofs.lemmas.Result.{IfOk-weaker, err_from_is_err_and}
use Rattle.gi_table_commands.proofs.MatchLemmas.{lines_refused, unanswered_refused}
use Rattle.gi_table_commands.proofs.matching.answer.Goals as goal

pub returns-in_err-order-clause-fault : goal.returns-in_err-order-clause-fault
returns-in_err-order-clause-fault g c =
    let left = err_from_is_err_and c.from_residual-in_err-order.result c.from_residual-in_err-order.ensures.1 in
    rw (left.1, left.2) (lines_refused c.args.input.now _ _ c.in_err-order.field-0.0 c.in_ok-order_line.ensures c.in_err-order.ensures.refused)

pub returns-in_err-response-clause-fault : goal.returns-in_err-response-clause-fault
returns-in_err-response-clause-fault g c =
    let left = err_from_is_err_and c.from_residual-in_err-response.result c.from_residual-in_err-response.ensures.1 in
    rw (left.1, left.2) (unanswered_refused c.args.input.now _ _ c.in_ok-order.order c.in_ok-order.own c.in_err-response.field-0.0
    c.in_ok-order_line.ensures c.in_ok-order.ensures.order c.in_ok-order.ensures.own c.in_err-response.ensures.fault)

pub returns-clause-text : goal.returns-clause-text
returns-clause-text g c =
    let answered = c.in_ok-response.ensures.response in
    IfOk-weaker c.line_of-text.result _ _ (λ text is. record {
      order = c.in_ok-order.order;
      own = c.in_ok-order.own;
      confirmed = answered.confirmed;
      tables = record {
        first = c.in_ok-order_line.order_line.now;
        second = c.in_ok-order_line.own_line.now;
        lines = c.in_ok-order_line.ensures;
        is_order = c.in_ok-order.ensures.order;
        is_own = c.in_ok-order.ensures.own;
      };
      shape = answered.shape;
      lesser = answered.lesser;
      only = answered.only;
      written = rw answered.is_response at is;
    }) c.line_of-text.ensures.text

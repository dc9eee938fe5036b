use Rattle.gi_live.proofs.Queried.{moment, no_report, no_moment, no_quantity, no_start, quantity}
use Rattle.gi_live.proofs.query.query_of.Goals as goal

pub returns-in_err-start-in-Outgoing : goal.returns-in_err-start-in-Outgoing
returns-in_err-start-in-Outgoing c =
    no_start c.args.word c.args.words c.from_residual.result c.in-Outgoing.is c.from_residual.ensures c.in_err-start-in-Outgoing.ensures

pub returns-in_err-asked_report-in-Report : goal.returns-in_err-asked_report-in-Report
returns-in_err-asked_report-in-Report c =
    no_report c.args.word c.args.words c.from_residual-in_err-asked_report-in-Report.result c.in-Report.is c.from_residual-in_err-asked_report-in-Report.ensures c.in_err-asked_report-in-Report.ensures

pub returns-in_err-quantity-in-Explain : goal.returns-in_err-quantity-in-Explain
returns-in_err-quantity-in-Explain c =
    no_quantity c.args.word c.args.words c.from_residual-in_err-quantity-in-Explain.result c.in-Explain.is c.from_residual-in_err-quantity-in-Explain.ensures
    c.in_err-quantity-in-Explain.ensures

pub returns-in_ok-quantity-in-Explain : goal.returns-in_ok-quantity-in-Explain
returns-in_ok-quantity-in-Explain c = quantity c.args.word c.args.words c.in_ok-quantity-in-Explain.field-0 c.in-Explain.is c.in_ok-quantity-in-Explain.ensures

pub returns-in_err-moment-in-Due : goal.returns-in_err-moment-in-Due
returns-in_err-moment-in-Due c =
    no_moment c.args.word c.args.words c.from_residual-in_err-moment-in-Due.result c.in-Due.is c.from_residual-in_err-moment-in-Due.ensures c.in_err-moment-in-Due.ensures

pub returns-in_ok-moment-in-Due : goal.returns-in_ok-moment-in-Due
returns-in_ok-moment-in-Due c = moment c.args.word c.args.words c.in_ok-moment-in-Due.field-0 c.in-Due.is c.in_ok-moment-in-Due.ensures

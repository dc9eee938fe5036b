use Rattle.gi_serving.proofs.Turning.{kept_so, other_at_I, other_at_M}
use Rattle.gi_serving.proofs.at_once.turned_at.Goals as goal

pub returns-in-I-clause-marks : goal.returns-in-I-clause-marks
returns-in-I-clause-marks g c = c.turned-main.ensures.marks

pub returns-in-I-clause-peer_marks : goal.returns-in-I-clause-peer_marks
returns-in-I-clause-peer_marks g c = kept_so c.turned-main.result.1 c.args.peer_main

pub returns-in-I-clause-other : goal.returns-in-I-clause-other
returns-in-I-clause-other g c = other_at_I c.args.side c.args.main c.turned-main.result.0 c.args.peer_main c.in-I.is

pub returns-in-I-clause-books : goal.returns-in-I-clause-books
returns-in-I-clause-books g c = other_at_I c.args.side c.args.book.now c.turned-main.new.self c.args.peer_book.now c.in-I.is

pub returns-in-M-clause-marks : goal.returns-in-M-clause-marks
returns-in-M-clause-marks g c = kept_so c.turned-peer_main.result.1 c.args.main

pub returns-in-M-clause-peer_marks : goal.returns-in-M-clause-peer_marks
returns-in-M-clause-peer_marks g c = c.turned-peer_main.ensures.marks

pub returns-in-M-clause-other : goal.returns-in-M-clause-other
returns-in-M-clause-other g c = other_at_M c.args.side c.args.main c.args.peer_main c.turned-peer_main.result.0 c.in-M.is

pub returns-in-M-clause-books : goal.returns-in-M-clause-books
returns-in-M-clause-books g c = other_at_M c.args.side c.args.book.now c.args.peer_book.now c.turned-peer_main.new.self c.in-M.is

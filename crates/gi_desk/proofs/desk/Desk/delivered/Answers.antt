use Rattle.std.proofs.Common.{◌≡◌, Ok, Err, Result, ap, sym, ◌∙◌}
use Rattle.gi_messages.specs.Decoding.{decoded}
use Rattle.gi_messages.specs.declared.message.Message.{Message}
use Rattle.gi_messages.specs.declared.message_fault.MessageFault.{MessageFault}
use Rattle.gi_desk.specs.Judging.{delivered}
use Rattle.gi_desk.proofs.Called.{delivered-from, if_failed}
use Rattle.gi_desk.proofs.Decoded.{short-readable, spelled-receivable, spelled-readable}
use Rattle.gi_desk.proofs.desk.Desk.delivered.Goals as goal

pub received-requires : goal.received-requires
received-requires g c = spelled-receivable _ _ c.in-Ok.ensures.found

pub returns-in-Ok-clause-value : goal.returns-in-Ok-clause-value
returns-in-Ok-clause-value g c =
    let side = g.R.Role.SIDE in
    let own = c.args.self.now.point in
    let facts = c.args.self.now.facts in
    let kept = c.args.self.now.kept in
    let read : delivered side own facts kept (Ok c.in-Ok.message) ≡ delivered side own facts kept (decoded c.args.bytes.now) =
    ap (λ (r : Result Message MessageFault). delivered side own facts kept r) (sym c.in-Ok.ensures.exact) in
    delivered-from c.received.result _ _ c.received.ensures read

pub returns-in-Ok-clause-short : goal.returns-in-Ok-clause-short
returns-in-Ok-clause-short g c = if_failed c.received.result (spelled-readable c.args.bytes.now c.in-Ok.message c.in-Ok.ensures.found)

pub returns-in-Err-OutOfMemory-clause-short : goal.returns-in-Err-OutOfMemory-clause-short
returns-in-Err-OutOfMemory-clause-short g c =
    short-readable c.args.bytes.now c.decode.result (c.in-Err-OutOfMemory.is ∙ ap Err c.in-Err-OutOfMemory.field-0-is) c.decode.ensures.too_large c.decode.ensures.not_text

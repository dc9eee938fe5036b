use Rattle.std.proofs.Common.{◌≡◌, List, length, map, ap, ◌∙◌, sym, arith}
use Rattle.std.proofs.lemmas.List.{length-map}
use Rattle.std.proofs.lemmas.Result.{IfOk-weaker}
use Rattle.gi_office.specs.declared.receipt.Receipt.{Receipt}
use Rattle.gi_serving.specs.Submitting.{bodies_in, in_order, receipts_in}
use Rattle.gi_serving.proofs.Places.{served_all, served_places}
use Rattle.gi_serving.proofs.batch.serve_all.Goals as goal

pub ended-requires-clause-room : goal.ended-requires-clause-room
ended-requires-clause-room g c =
    let given = map bodies_in c.args.dealt.items in
    let many : length c.args.seats.items ≡ length given = omega (arith, c.requires.dealt, length-map c.args.dealt.items bodies_in) in
    let all : length c.in-Ok.served.items ≡ length given = served_all g.R.Role.SIDE c.args.seats.items given c.begun.result.items c.in-Ok.served.items many c.begun.ensures c.in-Ok.ensures.served in
    omega (arith, all, many, c.requires.seats.1)

pub ended-requires-clause-receipts : goal.ended-requires-clause-receipts
ended-requires-clause-receipts g c =
    let given = map bodies_in c.args.dealt.items in
    let many : length c.args.seats.items ≡ length given = omega (arith, c.requires.dealt, length-map c.args.dealt.items bodies_in) in
    let all : length c.in-Ok.served.items ≡ length given = served_all g.R.Role.SIDE c.args.seats.items given c.begun.result.items c.in-Ok.served.items many c.begun.ensures c.in-Ok.ensures.served in
    omega (arith, all, many, c.requires.receipts.1)

pub returns-in-Ok-clause-places : goal.returns-in-Ok-clause-places
returns-in-Ok-clause-places g c =
    let given = map bodies_in c.args.dealt.items in
    let many : length c.args.seats.items ≡ length given = omega (arith, c.requires.dealt, length-map c.args.dealt.items bodies_in) in
    IfOk-weaker c.ended.result _ _
    (λ ended h. served_places g.R.Role.SIDE c.args.seats.items ended.0.items given c.begun.result.items c.in-Ok.served.items many c.begun.ensures c.in-Ok.ensures.served h)
    c.ended.ensures.seats

pub returns-in-Ok-clause-count : goal.returns-in-Ok-clause-count
returns-in-Ok-clause-count g c =
    let given = map bodies_in c.args.dealt.items in
    let many : length c.args.seats.items ≡ length given = omega (arith, c.requires.dealt, length-map c.args.dealt.items bodies_in) in
    let all : length c.in-Ok.served.items ≡ length given = served_all g.R.Role.SIDE c.args.seats.items given c.begun.result.items c.in-Ok.served.items many c.begun.ensures c.in-Ok.ensures.served in
    IfOk-weaker c.ended.result _ _
    (λ ended h. sym (length-map ended.1.items in_order) ∙ ap (length {A = List Receipt}) h ∙ length-map c.in-Ok.served.items receipts_in ∙ all ∙ length-map c.args.dealt.items bodies_in)
    c.ended.ensures.receipts

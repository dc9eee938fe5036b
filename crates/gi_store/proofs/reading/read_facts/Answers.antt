use Rattle.std.proofs.Common.{◌≡◌, ◌<◌, ◌++◌, ◌∷◌, [], ◌+◌, length, take, drop, suc, sym, ap, subst, ◌∙◌, arith, rules}
use Rattle.std.proofs.lemmas.List.{take_more}
use Rattle.std.proofs.Math.Seq.{split_at}
use Rattle.gi_store.specs.Facts.{Covers, IsReadFault}
use Rattle.gi_store.proofs.Walk.{one_more, refused}
use Rattle.gi_store.proofs.reading.read_facts.Goals as goal

pub returns-in_err-append_row-clause-refused : goal.returns-in_err-append_row-clause-refused
returns-in_err-append_row-clause-refused c =
    let i = c.loop-row.row-index in
    let rows = c.args.rows.now in
    let row = c.row-item.result in
    let within : i < length rows = omega arith in
    let cut : rows ≡ take i rows ++ row ∷ drop (suc i) rows = split_at rows i row within ∙ ap (λ r. take i rows ++ r ∷ drop (suc i) rows) (sym c.row-item.is) in
    let got : IsReadFault rows c.in_err-append_row.field-0.0 =
    refused rows (take i rows) (drop (suc i) rows) row c.loop-row.facts.items _ c.in_err-append_row.field-0.0 cut c.loop-row.invariant (omega arith) c.in_err-append_row.ensures.refused in
    search rules

pub loop-row-preserved : goal.loop-row-preserved
loop-row-preserved c =
    let i = c.loop-row.row-index in
    let rows = c.args.rows.now in
    let row = c.row-item.result in
    let within : i < length rows = omega arith in
    let more : take (i + 1) rows ≡ take i rows ++ row ∷ [] = take_more rows i row within ∙ ap (λ r. take i rows ++ r ∷ []) (sym c.row-item.is) in
    let batch = c.in_ok-append_row.ensures.appended in
    rw (more, batch.2) (one_more 1 (take i rows) c.loop-row.facts.items row batch.0 c.loop-row.invariant (subst (λ k. Covers k row batch.0) (omega arith) batch.1))

use Rattle.std.proofs.Common.{ℕ, List, Ok, Err, sym, subst}
use Rattle.std.proofs.lemmas.Result.{IfErr-weaker}
use Rattle.gi_pairs.specs.declared.side.Side.TheVariants.{I, M}
use Rattle.gi_commands.specs.Auditing.{IsNoAudit}
use Rattle.gi_commands.specs.Owned.{of_owner}
use Rattle.gi_commands.proofs.Audits.{no_book, no_facts}
use Rattle.gi_commands.proofs.auditing.named_audit.Goals as goal

pub returns-in-Err-clause-fault : goal.returns-in-Err-clause-fault
returns-in-Err-clause-fault g c =
    let reads = g.B.BookSource.gives c.args.books.now c.args.wanted.books.initiating.now in
    let their_reads = g.B.BookSource.gives c.args.books.now c.args.wanted.books.matching.now in
    let point = c.args.wanted.books.point.now in
    let ours = of_owner reads I point in
    let theirs = of_owner their_reads M point in
    let is = c.in_ok-point.ensures.1 in
    let our = subst (λ (p : List ℕ). of_owner reads I p (Ok c.in_ok-initiating.initiating.items)) is c.in_ok-initiating.ensures.facts in
    let their = subst (λ (p : List ℕ). of_owner their_reads M p (Err c.in-Err.fault)) is c.in-Err.ensures.fault in
    subst (IsNoAudit ours theirs point) (sym c.from.ensures) (no_book ours theirs point c.in_ok-initiating.initiating.items c.in-Err.fault our their)

pub returns-clause-fault : goal.returns-clause-fault
returns-clause-fault g c =
    let reads = g.B.BookSource.gives c.args.books.now c.args.wanted.books.initiating.now in
    let their_reads = g.B.BookSource.gives c.args.books.now c.args.wanted.books.matching.now in
    let point = c.args.wanted.books.point.now in
    let ours = of_owner reads I point in
    let theirs = of_owner their_reads M point in
    let is = c.in_ok-point.ensures.1 in
    let our = subst (λ (p : List ℕ). of_owner reads I p (Ok c.in_ok-initiating.initiating.items)) is c.in_ok-initiating.ensures.facts in
    let their = subst (λ (p : List ℕ). of_owner their_reads M p (Ok c.in-Ok.matching.items)) is c.in-Ok.ensures.facts in
    IfErr-weaker c.facts_audit.result _ _ (λ why h. no_facts ours theirs point c.in_ok-initiating.initiating.items c.in-Ok.matching.items why our their (rw is at h)) c.facts_audit.ensures.fault

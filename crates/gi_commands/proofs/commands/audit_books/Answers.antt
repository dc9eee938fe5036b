use Rattle.std.proofs.Common.{List, subst, ℕ}
use Rattle.std.specs.Io.KnownBytes.{Appends}
use Rattle.gi_audit.specs.declared.verdict.Verdict.{Verdict}
use Rattle.gi_pairs.specs.declared.side.Side.TheVariants.{I, M}
use Rattle.gi_commands.specs.Auditing.{HasAudit}
use Rattle.gi_commands.specs.Owned.{of_owner}
use Rattle.gi_commands.proofs.commands.audit_books.Goals as goal

pub returns-clause-first : goal.returns-clause-first
returns-clause-first g c =
    let differs = subst (λ (verdict : Verdict). HasAudit c.args.wanted.format (of_owner (g.B.BookSource.gives c.args.books.now c.args.wanted.books.initiating.now) I c.args.wanted.books.point.now) (of_owner (g.B.BookSource.gives c.args.books.now c.args.wanted.books.matching.now) M c.args.wanted.books.point.now) c.args.wanted.books.point.now c.in_ok-audit.audit.text.items verdict) c.in-Differs.is c.in_ok-audit.ensures.audited in
    (c.in_ok-audit.audit.text.items, c.in-Differs.field-0, differs)

pub returns-clause-leaves : goal.returns-clause-leaves
returns-clause-leaves g c =
    let differs = subst (λ (verdict : Verdict). HasAudit c.args.wanted.format (of_owner (g.B.BookSource.gives c.args.books.now c.args.wanted.books.initiating.now) I c.args.wanted.books.point.now) (of_owner (g.B.BookSource.gives c.args.books.now c.args.wanted.books.matching.now) M c.args.wanted.books.point.now) c.args.wanted.books.point.now c.in_ok-audit.audit.text.items verdict) c.in-Differs.is c.in_ok-audit.ensures.audited in
    let written = subst (λ (text : List ℕ). Appends (g.W.Write.contents c.args.output.now) (g.W.Write.contents c.write_text.new.output) text)
    c.as_slice.ensures.value c.in_ok-write_text.ensures.written in
    (c.in_ok-audit.audit.text.items, c.in-Differs.field-0, differs, written)

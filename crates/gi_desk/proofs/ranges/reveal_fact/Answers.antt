use Rattle.std.proofs.Common.{◌≡◌, List, All, true, sym, subst}
use Rattle.gi_messages.specs.declared.nomination_line.NominationLine.{NominationLine}
use Rattle.gi_desk.specs.Machine.{would_record}
use Rattle.gi_desk.specs.Writable.{FitsButPriority}
use Rattle.gi_facts.specs.Writable.{FitsFact}
use Rattle.gi_facts.specs.declared.fact.Fact.{Fact}
use Rattle.gi_desk.proofs.Fitting.{closing-fits, meeting_fact-fits, nomination-fits, notice-fits}
use Rattle.gi_desk.proofs.ranges.reveal_fact.Goals as goal

pub returns-in-Noticed : goal.returns-in-Noticed
returns-in-Noticed c =
    let known = c.requires in
    let recorded = subst (λ (fact : Fact). would_record known.0 known.1 known.2 fact ≡ true) c.in-Noticed.is known.4 in
    subst FitsFact (sym c.in-Noticed.is) (notice-fits known.0 known.1 known.2 c.in-Noticed.notice recorded c.reveal_invariant.ensures)

pub returns-in-Nominated : goal.returns-in-Nominated
returns-in-Nominated c =
    let known = c.requires in
    let recorded = subst (λ (fact : Fact). would_record known.0 known.1 known.2 fact ≡ true) c.in-Nominated.is known.4 in
    let lines = subst (λ (lines : List NominationLine). All FitsButPriority lines) c.as_slice.ensures c.reveal_lines.ensures in
    subst FitsFact (sym c.in-Nominated.is)
    (nomination-fits known.0 known.1 known.2 c.in-Nominated.document recorded c.reveal_invariant-in-Nominated.ensures c.reveal_invariant-in-Nominated-2.ensures c.reveal_invariant-in-Nominated-3.ensures lines)

pub returns-in-Closed : goal.returns-in-Closed
returns-in-Closed c =
    let known = c.requires in
    let recorded = subst (λ (fact : Fact). would_record known.0 known.1 known.2 fact ≡ true) c.in-Closed.is known.4 in
    subst FitsFact (sym c.in-Closed.is) (closing-fits known.0 known.1 known.2 c.in-Closed.id c.in-Closed.rule recorded c.reveal_invariant-in-Closed.ensures)

pub returns-in-Met : goal.returns-in-Met
returns-in-Met c =
    let known = c.requires in
    let recorded = subst (λ (fact : Fact). would_record known.0 known.1 known.2 fact ≡ true) c.in-Met.is known.4 in
    subst FitsFact (sym c.in-Met.is) (meeting_fact-fits known.0 known.1 known.2 c.in-Met.id c.in-Met.peer known.3 recorded c.reveal_invariant-in-Met.ensures)

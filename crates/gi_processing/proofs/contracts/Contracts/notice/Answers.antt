use Rattle.std.proofs.Common.{◌∙◌, ap, refl, sym, subst, rules}
use Rattle.gi_processing.specs.Capacity.{Capacity, has_notice}
use Rattle.gi_processing.specs.Kept.{contracts_in, notices_in}
use Rattle.gi_processing.specs.Recording.{IsNotice, NoticeStands}
use Rattle.gi_processing.proofs.KeptLaws.{left-cut, notice-absent, notice-cut}
use Rattle.gi_processing.proofs.ReadingLaws.{records-notice}
use Rattle.gi_processing.proofs.contracts.Contracts.notice.Goals as goal

pub invariant_of-self-2 : goal.invariant_of-self-2
invariant_of-self-2 c =
    let in_range : IsNotice c.args.notice = search rules in
    record {
      portfolios = c.self.invariant.portfolios;
      ordered = c.in-Ok.ensures.ordered;
      left = left-cut c.self.inside.notices c.cut_hours.new.rows c.args.notice in_range c.self.invariant.left c.in-Ok.ensures.cut;
    }

pub returns-clause-stands : goal.returns-clause-stands
returns-clause-stands c =
    subst (λ (v : Capacity). NoticeStands v.notices (notices_in c.cut_hours.new.rows.entries) c.args.notice) c.self.view_is
    (notice-cut c.self.inside.notices c.cut_hours.new.rows c.args.notice c.self.invariant.ordered c.in-Ok.ensures.ordered c.in-Ok.ensures.cut)

pub returns-clause-reads : goal.returns-clause-reads
returns-clause-reads c =
    let new : Capacity = record { contracts = contracts_in c.self.inside.contracts.entries; notices = notices_in c.cut_hours.new.rows.entries } in
    records-notice c.args.self.now new c.args.notice (returns-clause-stands c) (ap (λ (v : Capacity). v.contracts) c.self.view_is)

pub returns-in_default-cut_hours-clause-covered : goal.returns-in_default-cut_hours-clause-covered
returns-in_default-cut_hours-clause-covered c taken has =
    let notice = c.args.notice in
    let absent = notice-absent notice.day notice.direction notice.first c.self.inside.notices c.in_default-cut_hours.ensures.absent in
    sym absent ∙ ap (λ (v : Capacity). has_notice notice.day notice.direction notice.first v.notices) c.self.view_is ∙ has

pub returns-in-Some-clause-unchanged : goal.returns-in-Some-clause-unchanged
returns-in-Some-clause-unchanged c = refl

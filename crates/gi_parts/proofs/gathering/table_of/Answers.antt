use Rattle.std.proofs.Common.{◌≡◌, ◌∙◌, ℕ, All, length, subst, sym}
use Rattle.gi_pairs.specs.Table.{covered, joined}
use Rattle.gi_parts.proofs.gathering.table_of.Goals as goal

pub join-requires-clause-rows : goal.join-requires-clause-rows
join-requires-clause-rows c = (c.in_ok-rows.ensures.fit c.args.part.now.processed c.requires.kept c.requires.part).known

pub join-requires-clause-whole : goal.join-requires-clause-whole
join-requires-clause-whole c =
    subst (λ (n : ℕ). All (λ row. length row.hours ≡ n) c.in_ok-rows.rows.items) (λ t. covered (sym c.first.ensures t) (sym c.last.ensures.value t))
    (c.in_ok-rows.ensures.fit c.args.part.now.processed c.requires.kept c.requires.part).whole

pub returns : goal.returns
returns c = c.join.ensures.exact ∙ (λ t. joined (c.first.ensures t) (c.last.ensures.value t) c.args.most (c.in_ok-rows.ensures.rows t))

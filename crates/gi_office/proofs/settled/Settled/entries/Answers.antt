use Rattle.std.proofs.Common.{rules, ◌≡◌, ◌∙◌, subst, sym}
use Rattle.gi_office.specs.Reconciling.{entries_of}
use Rattle.gi_office.specs.Settling.{SettledState}
use Rattle.gi_office.proofs.Kept.{entries-kept}
use Rattle.gi_office.proofs.settled.Settled.entries.Goals as goal

pub returns : goal.returns
returns g c =
    let inside = c.self.inside in
    let is : c.deref.result.now ≡ inside.trail.items = search rules in
    is ∙ subst (λ (s : SettledState). inside.trail.items ≡ entries_of s.lives) c.self.view_is (sym (entries-kept inside.desk inside.earlier.items inside.opening inside.trail.items))

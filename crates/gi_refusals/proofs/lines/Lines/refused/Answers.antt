use Rattle.std.proofs.Common.{◌≡◌, ◌∙◌, ap, sym, take, false}
use Rattle.gi_refusals.specs.Refusals.{tells_refusal, total}
use Rattle.gi_refusals.proofs.Tallies.{none_more}
use Rattle.gi_refusals.proofs.lines.Lines.refused.Goals as goal

pub returns-else-tells_refusal : goal.returns-else-tells_refusal
returns-else-tells_refusal c =
    let front = take c.self.inside.len c.self.inside.front in
    let none : tells_refusal front ≡ false = sym c.tells_refusal.ensures ∙ c.if-tells_refusal.false in
    none_more c.self.inside.count front c.self.invariant.1 none ∙ ap total c.self.view_is

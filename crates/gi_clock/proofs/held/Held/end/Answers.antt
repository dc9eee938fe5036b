use Rattle.std.proofs.Common.{◌∙◌, ap}
use Rattle.gi_clock.proofs.HeldLemmas.{ends}
use Rattle.gi_clock.proofs.held.Held.end.Goals as goal

pub returns : goal.returns
returns c =
    ends c.args.self.now (record { rest = c.of.result; begun = c.replace.new.dest; piece = c.args.self.now.piece }) c.requires.none c.requires.over c.requires.over
    (c.of.ensures ∙ ap (λ v. v.items) c.replace.ensures.value)
    (ap (λ v. v.items) c.replace.ensures.after ∙ c.new.ensures.items)

use Rattle.std.proofs.Common.{◌∙◌}
use Rattle.gi_script.proofs.NameLemmas.{finds_direction}
use Rattle.gi_script.proofs.TakeLemmas.{takes_next}
use Rattle.gi_script.specs.Grammar.{IsDirectionWord}
use Rattle.gi_script.proofs.words.Words.direction.Goals as goal

pub returns : goal.returns
returns c =
    let word = c.in_ok-next.field-0.now in
    takes_next IsDirectionWord c.args.self.now word c.next.new.self c.ok.result c.in_ok-next.ensures (finds_direction word c.ok.result (c.ok.ensures.value ∙ c.parse.ensures.value))

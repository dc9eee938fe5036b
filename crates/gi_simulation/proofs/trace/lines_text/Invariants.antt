use Rattle.std.proofs.Common.{◌≡◌, ◌++◌, codes, string_bytes, take}
use Rattle.std.specs.List.{flat_map}
use Rattle.gi_simulation.specs.Trace.{line_text}
use Rattle.gi_simulation.proofs.trace.lines_text.Given as goal

abbrev pub invariant-loop-line : goal.invariant-loop-line
invariant-loop-line l =
    string_bytes l.text ≡ string_bytes l.initial.text ++ flat_map (λ later. codes "," ++ line_text l.first later) (take l.line-index l.later)

use Rattle.std.proofs.Common.{◌≡◌, map, reverse}
use Rattle.std.specs.Prelude.{IfSome}
use Rattle.gi_desk.specs.Messages.{portfolios_in as portfolios_in_rows, with_code}
use Rattle.gi_desk.proofs.telling.portfolios_in.Given as goal

abbrev pub invariant-loop-row : goal.invariant-loop-row
invariant-loop-row l = (l.codes.items ≡ portfolios_in_rows l.side (reverse (map (λ row. row.now) l.yielded))) × IfSome l.last (λ code. with_code code l.codes.items ≡ l.codes.items)

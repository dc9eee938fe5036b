use Rattle.std.proofs.Common.{rules, ◌≡◌, arith}
use Rattle.gi_office.proofs.Breaking.{breaks_at, breaks_short}
use Rattle.gi_office.proofs.joining.break_of.Goals as goal

pub returns-in-Some : goal.returns-in-Some
returns-in-Some g c =
    let later = c.args.later.now in
    let same : later.point ≡ c.args.former.now.point = search rules in
    breaks_at c.args.former.now later.point later.facts c.args.opening c.in-Some.before same c.requires c.in-Some.ensures

pub returns-then-opening-saved : goal.returns-then-opening-saved
returns-then-opening-saved g c =
    let later = c.args.later.now in
    let same : later.point ≡ c.args.former.now.point = search rules in
    let value = c.saved.ensures.value in
    let short = c.if-opening-saved.true in
    breaks_short c.args.former.now later.point later.facts c.args.opening same c.requires c.in_default.ensures (omega (arith, value, short))

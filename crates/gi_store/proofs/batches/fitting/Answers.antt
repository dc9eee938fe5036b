use Rattle.std.proofs.Common.{◌≡◌, ◌<◌, ◌≤◌, get_or, length, sym, ap, arith}
use Rattle.gi_store.proofs.Fronts.{all_fit, some_facts, stops_at, taken, taken_by}
use Rattle.gi_store.proofs.batches.fitting.Goals as goal

pub returns-then-left-length : goal.returns-then-left-length
returns-then-left-length c =
    let facts = c.args.facts.now in
    let before = c.loop-before.before in
    let fact = c.index-facts-before.result in
    let within : before < length facts = omega arith in
    let some : 1 ≤ c.max.result = omega arith in
    let above : before ≤ c.max.result = omega arith in
    let there : c.max.result ≤ length facts = omega arith in
    let is : get_or facts before fact ≡ fact = sym c.index-facts-before.is in
    stops_at facts before c.max.result fact within some above (λ several. omega arith) there (omega (arith, c.loop-before.invariant))
    (omega (arith, c.loop-before.invariant, c.if-left-length.true, c.in_ok-length.ensures, ap taken_by is))

pub returns : goal.returns
returns c =
    let facts = c.args.facts.now in
    let all : c.loop-before.before ≡ length facts = omega arith in
    all_fit facts (some_facts facts c.requires) (omega (arith, c.loop-before.invariant, ap (taken facts) all))

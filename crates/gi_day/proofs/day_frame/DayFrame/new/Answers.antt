use Rattle.std.proofs.Common.{◌≡◌, ◌∙◌, ◌≤◌, Some, sym, arith, w64, to_z, of_z, to_z-of_z}
use Rattle.std.proofs.lemmas.Bool.Decides.{nat_tests}
use Rattle.jiff_core.proofs.SignedLemmas.{signed_arith}
use Rattle.gi_day.specs.Cycles.{hour_count}
use Rattle.gi_day.specs.FrameRepr.{lead_hours}
use Rattle.gi_day.proofs.DayFacts.{day_facts}
use Rattle.gi_day.proofs.day_frame.DayFrame.new.Goals as goal

pub overflow_sub-end : goal.overflow_sub-end
overflow_sub-end c =
    let f = day_facts c.args.day in
    omega (arith, signed_arith, f.end_is, f.hours_in, c.requires.start, c.requires.end, c.ranges.start.sfits, c.ranges.end.sfits)

pub overflow_sub-start : goal.overflow_sub-start
overflow_sub-start c =
    let f = day_facts c.args.day in
    omega (arith, signed_arith, f.start_is, f.lead_in, c.requires.start, c.requires.first_cycle, c.ranges.start.sfits, c.ranges.first_cycle.sfits)

pub returns-in_default : goal.returns-in_default
returns-in_default c =
    let f = day_facts c.args.day in
    let found = c.whole_hours.ensures (hour_count c.args.day) (omega (arith, f.hours_in)) (omega (arith, signed_arith, f.end_is, f.hours_in, c.requires.start, c.requires.end, c.ranges.start.sfits, c.ranges.end.sfits)) in
    absurd (c.in_default.not-Some (hour_count c.args.day) found)

pub returns-in_default-whole_hours : goal.returns-in_default-whole_hours
returns-in_default-whole_hours c =
    let f = day_facts c.args.day in
    let found = c.whole_hours-2.ensures (lead_hours c.args.day) (omega (arith, f.lead_in)) (omega (arith, signed_arith, f.start_is, f.lead_in, c.requires.start, c.requires.first_cycle, c.ranges.start.sfits, c.ranges.first_cycle.sfits)) in
    absurd (c.in_default-whole_hours.not-Some (lead_hours c.args.day) found)

pub returns-then-not-contains : goal.returns-then-not-contains
returns-then-not-contains c =
    let f = day_facts c.args.day in
    let found = c.whole_hours.ensures (hour_count c.args.day) (omega (arith, f.hours_in)) (omega (arith, signed_arith, f.end_is, f.hours_in, c.requires.start, c.requires.end, c.ranges.start.sfits, c.ranges.end.sfits)) in
    let both : Some c.in-Some.hours ≡ Some (hour_count c.args.day) = sym c.in-Some.is ∙ found in
    let hours : c.in-Some.hours ≡ hour_count c.args.day = cc in
    let low : 23 ≤ c.in-Some.hours = omega (arith, f.hours_in) in
    let high : c.in-Some.hours ≤ 25 = omega (arith, f.hours_in) in
    absurd (grind (arith, nat_tests, c.contains.ensures.value, c.if-not-contains.true))

pub invariant_of-result : goal.invariant_of-result
invariant_of-result c =
    let f = day_facts c.args.day in
    let found = c.whole_hours.ensures (hour_count c.args.day) (omega (arith, f.hours_in)) (omega (arith, signed_arith, f.end_is, f.hours_in, c.requires.start, c.requires.end, c.ranges.start.sfits, c.ranges.end.sfits)) in
    let found₂ = c.whole_hours-2.ensures (lead_hours c.args.day) (omega (arith, f.lead_in)) (omega (arith, signed_arith, f.start_is, f.lead_in, c.requires.start, c.requires.first_cycle, c.ranges.start.sfits, c.ranges.first_cycle.sfits)) in
    let both : Some c.in-Some.hours ≡ Some (hour_count c.args.day) = sym c.in-Some.is ∙ found in
    let both₂ : Some c.in-Some-whole_hours.lead ≡ Some (lead_hours c.args.day) = sym c.in-Some-whole_hours.is ∙ found₂ in
    let hours : c.in-Some.hours ≡ hour_count c.args.day = cc in
    let lead : c.in-Some-whole_hours.lead ≡ lead_hours c.args.day = cc in
    let first : to_z w64 (of_z w64 c.args.first_cycle) ≡ c.args.first_cycle = to_z-of_z c.ranges.first_cycle in
    record {
      year = c.requires.year;
      first_cycle = first ∙ c.requires.first_cycle;
      lead = lead;
      hours = hours;
    }
